-- The step rules as one law for each way through the code: n and t are the node and the seat table before, n' and t' after. The
-- premises are what the code learned on its way, the last first.
use Prim.Native.Nat.{ℕ, ◌+◌, ◌-◌, ◌≤◌, ◌<◌}
use mathlib.Core.Path.{◌≡◌, sym, ap, subst, ◌∙◌}
use mathlib.Core.Bool.{Bool, true, false, not, ◌&&◌, ◌||◌}
use mathlib.Core.List.{List, []}
use mathlib.Core.Logic.{◌≢◌, ◌⊎◌, inl, inr}
use lib.Dec.{leb, eqb}
use lib.IntN.{ℤ, pos}
use lib.Signed.{lt_z}
use mir.Syntax.{w32}
use mir.Val.{Fits, of_z, to_z}
use native.Mathlib.Omega.{arith}
use borrow.Author.Tests.{eq-eqb, ne_eqb}
use Rattle.rules.specs.Tables.{Tables, tables, seat_width, node_word, put_node, link_word, seat_word, put_seat, clear_words, kind_at, mark_at, start_at, end_at, phase_at, own_at, prev_at, cur_at, count_at, count_word, set_count}
use Rattle.rules.specs.Comparison.{claim_of, compare, shared}
use Rattle.rules.specs.Answers.{Answer, on, wait, held, back, waiting, answer_of}
use Rattle.rules.specs.Steps.{entering, move_to, joined, unlink, pass, link_in, start_validating, once_linked, look_again, insert, kind_of, hold, withdraw, leave, walking, waiting_to_enter, reader_validating, writer_validating, validating, reader_waiting}
use Rattle.rules.specs.declared.SharedRun.{SharedRun}
use Rattle.rules.proofs.Laws.Words.{count_low, count_not_head}
use Rattle.rules.proofs.Frames.NodeFrames.{linking_in, linked_kind}
use Rattle.rules.proofs.Laws.Answers.{answers_wait, answers_held, answers_back}
use Rattle.comparison.proofs.Signs.{compare_fits, at_zero, below_zero, above_zero}
use Rattle.steps.specs.Parts.{skip, skip_and_link, walk_by_comparison, wake_to, is_past, read_on, ends_before, write_on, count_of_kind, mark_and_clear}

-- ---- tests
pub joined_is : (sheet : Bool) (n t : List ℕ) (s v c m x : ℕ) → x ≡ link_word sheet n v → m ≡ node_word sheet n v mark_at → c ≡ seat_word sheet t s cur_at → v ≡ seat_word sheet t s prev_at
    → (not (eqb m 1) && eqb x c) ≡ joined (tables sheet n t) s
unfolding joined
joined_is sheet n t s v c m x px pm pc pv = rw (px, pm, pc, pv)

pub past_is : (sheet : Bool) (n t : List ℕ) (s o c e x : ℕ) → x ≡ node_word sheet n c start_at → e ≡ node_word sheet n o end_at → c ≡ seat_word sheet t s cur_at → o ≡ seat_word sheet t s own_at
    → (eqb c 0 || leb e x) ≡ is_past (tables sheet n t) s
unfolding is_past
past_is sheet n t s o c e x px pe pc po = rw (px, pe, pc, po)

pub before_is : (sheet : Bool) (n t : List ℕ) (s o c e x : ℕ) → x ≡ node_word sheet n o start_at → e ≡ node_word sheet n c end_at → c ≡ seat_word sheet t s cur_at → o ≡ seat_word sheet t s own_at
    → leb e x ≡ ends_before (tables sheet n t) s
unfolding ends_before
before_is sheet n t s o c e x px pe pc po = rw (px, pe, pc, po)

-- ---- the counts: one more fits, and there is one to take off
pub count_fits : (sheet : Bool) (n t : List ℕ) (s k x : ℕ) → x ≡ count_word (tables sheet n []) k → k ≡ kind_of (tables sheet n t) s → count_of_kind (tables sheet n t) s < 4294967295 → Fits w32 (x + 1)
count_fits sheet n t s k x e q h = let i : x < 4294967295 = rw (e, q) h in record { fits = omega arith }

pub count_some : (sheet : Bool) (n t : List ℕ) (s k x : ℕ) → x ≡ count_word (tables sheet n []) k → k ≡ kind_of (tables sheet n t) s → 1 ≤ count_of_kind (tables sheet n t) s → 1 ≤ x
count_some sheet n t s k x e q h = rw (e, q) h

-- ---- hold, withdraw and release
pub hold_is : (sheet : Bool) (n n' t t' : List ℕ) (s k x : ℕ) → n' ≡ (set_count (tables sheet n []) k (x + 1)).nodes → t' ≡ (move_to (tables sheet [] t) s 5 0 0).seats → x ≡ count_word (tables sheet n []) k → k ≡ kind_of (tables sheet n t) s
    → tables sheet n' t' ≡ hold (tables sheet n t) s
unfolding hold
hold_is sheet n n' t t' s k x p q e i = rw (p, q, e, i)

pub withdraw_is : (sheet : Bool) (n n' t t' : List ℕ) (s o : ℕ) → t' ≡ (move_to (tables sheet [] t) s 6 0 0).seats → n' ≡ put_node sheet n o mark_at 1 → o ≡ seat_word sheet t s own_at → tables sheet n' t' ≡ withdraw (tables sheet n t) s
unfolding withdraw
withdraw_is sheet n n' t t' s o q p i = rw (p, q, i)

pub clear_is : (sheet : Bool) (n n' t t' : List ℕ) (s o : ℕ) → t' ≡ clear_words sheet (seat_width sheet) t s → n' ≡ put_node sheet n o mark_at 1 → o ≡ seat_word sheet t s own_at → tables sheet n' t' ≡ mark_and_clear (tables sheet n t) s
clear_is sheet n n' t t' s o q p i = rw (p, q, i)

pub leave_is : (sheet : Bool) (n n₁ n' t t' : List ℕ) (s k x : ℕ) → n' ≡ (set_count (tables sheet n₁ []) k (x - 1)).nodes → tables sheet n₁ t' ≡ mark_and_clear (tables sheet n t) s → x ≡ count_word (tables sheet n []) k → k ≡ kind_of (tables sheet n t) s
    → tables sheet n' t' ≡ leave (tables sheet n t) s
unfolding leave
leave_is sheet n n₁ n' t t' s k x p q e i = rw (p, e, i) (ap (λ u. set_count u (kind_of (tables sheet n t) s) (count_word (tables sheet n t) (kind_of (tables sheet n t) s) - 1)) q)

-- ---- by the profile, once own is linked in
module _ (sheet : Bool) (n t t' : List ℕ) (s : ℕ) where
  pub linked_holds : (n' : List ℕ) → tables sheet n' t' ≡ hold (tables sheet n t) s → sheet ≡ true → tables sheet n' t' ≡ once_linked (tables sheet n t) s
  unfolding once_linked
  linked_holds n' w e = w ∙ sym (rw e)

  pub linked_validates : tables sheet n t' ≡ start_validating (tables sheet n t) s → sheet ≡ false → tables sheet n t' ≡ once_linked (tables sheet n t) s
  unfolding once_linked
  linked_validates w e = w ∙ sym (rw e)

-- linking in changes no claim and no count
pub linked_count : (sheet : Bool) (n n₁ t : List ℕ) (s : ℕ) → tables sheet n₁ t ≡ link_in (tables sheet n t) s → count_of_kind (tables sheet n t) s < 4294967295 → count_of_kind (tables sheet n₁ t) s < 4294967295
linked_count sheet n n₁ t s l h =
    let u = tables sheet n t in
    let word = (linking_in u s).word_at (count_at (kind_of u s)) (count_low sheet (kind_of u s)) (count_not_head (kind_of u s)) (λ z. z) in
    subst (λ (v : Tables). count_of_kind v s < 4294967295) (sym l) (rw (linked_kind u s, word) h)

-- ---- by whether prev is joined to cur
module _ (sheet : Bool) (n t t' : List ℕ) (s : ℕ) (b : Bool) (is_joined_here : b ≡ joined (tables sheet n t) s) where
  pub unlink_joined : (n' : List ℕ) → tables sheet n' t' ≡ skip_and_link (tables sheet n t) s → b ≡ true → tables sheet n' t' ≡ unlink (tables sheet n t) s
  unfolding unlink
  unlink_joined n' w e = rw (sym is_joined_here ∙ e) w

  pub unlink_not : tables sheet n t' ≡ skip (tables sheet n t) s → b ≡ false → tables sheet n t' ≡ unlink (tables sheet n t) s
  unfolding unlink
  unlink_not w e = rw (sym is_joined_here ∙ e) w

  pub insert_joined : (n₁ n' : List ℕ) → tables sheet n' t' ≡ once_linked (tables sheet n₁ t) s → tables sheet n₁ t ≡ link_in (tables sheet n t) s → b ≡ true → tables sheet n' t' ≡ insert (tables sheet n t) s
  unfolding insert
  insert_joined n₁ n' w l e = rw (sym is_joined_here ∙ e, ← l) w

  pub insert_not : tables sheet n t' ≡ look_again (tables sheet n t) s → b ≡ false → tables sheet n t' ≡ insert (tables sheet n t) s
  unfolding insert
  insert_not w e = rw (sym is_joined_here ∙ e) w

-- ---- by the kind of own
module _ (sheet : Bool) (n t t' : List ℕ) (s o k : ℕ) (is_kind : k ≡ node_word sheet n o kind_at) (is_own : o ≡ seat_word sheet t s own_at) where
  reads_own : k ≡ 1 → eqb (node_word sheet n (seat_word sheet t s own_at) kind_at) 1 ≡ true
  reads_own e = eq-eqb (node_word sheet n (seat_word sheet t s own_at) kind_at) 1 (rw is_own at (sym is_kind ∙ e))

  writes_own : k ≢ 1 → eqb (node_word sheet n (seat_word sheet t s own_at) kind_at) 1 ≡ false
  writes_own d = ne_eqb (node_word sheet n (seat_word sheet t s own_at) kind_at) 1 (λ e. d (is_kind ∙ rw (← is_own) at e))

  pub start_reader : (x : ℕ) → t' ≡ (move_to (tables sheet [] t) s 3 o x).seats → x ≡ link_word sheet n o → k ≡ 1 → tables sheet n t' ≡ start_validating (tables sheet n t) s
  unfolding start_validating
  start_reader x w p e = rw (reads_own e, w, p, is_own)

  pub start_writer : (x : ℕ) → t' ≡ (move_to (tables sheet [] t) s 3 0 x).seats → x ≡ link_word sheet n 0 → k ≢ 1 → tables sheet n t' ≡ start_validating (tables sheet n t) s
  unfolding start_validating
  start_writer x w p d = rw (writes_own d, w, p)

  pub validate_reader : (n' : List ℕ) → tables sheet n' t' ≡ reader_validating (tables sheet n t) s → k ≡ 1 → tables sheet n' t' ≡ validating (tables sheet n t) s
  unfolding validating
  validate_reader n' w e = rw (reads_own e) w

  pub validate_writer : (n' : List ℕ) → tables sheet n' t' ≡ writer_validating (tables sheet n t) s → k ≢ 1 → tables sheet n' t' ≡ validating (tables sheet n t) s
  unfolding validating
  validate_writer n' w d = rw (writes_own d) w

-- ---- by the mark of prev
module _ (sheet : Bool) (n t t' : List ℕ) (s v m : ℕ) (is_mark : m ≡ node_word sheet n v mark_at) (is_prev : v ≡ seat_word sheet t s prev_at) where
  pub again_from_head : (t₁ : List ℕ) (x : ℕ) → t' ≡ put_seat sheet t₁ s cur_at x → t₁ ≡ put_seat sheet t s prev_at 0 → x ≡ link_word sheet n 0 → m ≡ 1 → tables sheet n t' ≡ look_again (tables sheet n t) s
  unfolding look_again
  again_from_head t₁ x w u p e = rw (eq-eqb (node_word sheet n (seat_word sheet t s prev_at) mark_at) 1 (rw is_prev at (sym is_mark ∙ e)), w, u, p)

  pub again_from_prev : (x : ℕ) → t' ≡ put_seat sheet t s cur_at x → x ≡ link_word sheet n v → m ≢ 1 → tables sheet n t' ≡ look_again (tables sheet n t) s
  unfolding look_again
  again_from_prev x w p d = rw (ne_eqb (node_word sheet n (seat_word sheet t s prev_at) mark_at) 1 (λ e. d (is_mark ∙ rw (← is_prev) at e)), w, p, is_prev)

-- ---- by cur: its being 0, its mark, its kind
module _ (sheet : Bool) (n t t' : List ℕ) (s c : ℕ) (is_cur : c ≡ seat_word sheet t s cur_at) where
  cur_zero : c ≡ 0 → eqb (seat_word sheet t s cur_at) 0 ≡ true
  cur_zero e = eq-eqb (seat_word sheet t s cur_at) 0 (sym is_cur ∙ e)

  cur_some : c ≢ 0 → eqb (seat_word sheet t s cur_at) 0 ≡ false
  cur_some d = ne_eqb (seat_word sheet t s cur_at) 0 (λ e. d (is_cur ∙ e))

  pub walk_end : (n' : List ℕ) → tables sheet n' t' ≡ insert (tables sheet n t) s → c ≡ 0 → tables sheet n' t' ≡ walking (tables sheet n t) s
  unfolding walking
  walk_end n' w e = rw (cur_zero e) w

  module _ (m : ℕ) (is_mark : m ≡ node_word sheet n c mark_at) where
    cur_marked : m ≡ 1 → eqb (node_word sheet n (seat_word sheet t s cur_at) mark_at) 1 ≡ true
    cur_marked e = eq-eqb (node_word sheet n (seat_word sheet t s cur_at) mark_at) 1 (rw is_cur at (sym is_mark ∙ e))

    cur_unmarked : m ≢ 1 → eqb (node_word sheet n (seat_word sheet t s cur_at) mark_at) 1 ≡ false
    cur_unmarked d = ne_eqb (node_word sheet n (seat_word sheet t s cur_at) mark_at) 1 (λ e. d (is_mark ∙ rw (← is_cur) at e))

    pub walk_marked : (n' : List ℕ) → tables sheet n' t' ≡ unlink (tables sheet n t) s → m ≡ 1 → c ≢ 0 → tables sheet n' t' ≡ walking (tables sheet n t) s
    unfolding walking
    walk_marked n' w e d = rw (cur_some d, cur_marked e) w

    pub walk_on : (n' : List ℕ) → tables sheet n' t' ≡ walk_by_comparison (tables sheet n t) s → m ≢ 1 → c ≢ 0 → tables sheet n' t' ≡ walking (tables sheet n t) s
    unfolding walking walk_by_comparison
    walk_on n' w e d = rw (cur_some d, cur_unmarked e) w

    pub wake_up : (to : ℕ) → t' ≡ put_seat sheet t s phase_at to → m ≡ 1 → tables sheet n t' ≡ wake_to to (tables sheet n t) s
    unfolding wake_to
    wake_up to w e = rw (cur_marked e, w)

    pub wake_not : (to : ℕ) → m ≢ 1 → tables sheet n t ≡ wake_to to (tables sheet n t) s
    unfolding wake_to
    wake_not to d = rw (cur_unmarked d)

    pub read_marked : (n' : List ℕ) → tables sheet n' t' ≡ unlink (tables sheet n t) s → m ≡ 1 → tables sheet n' t' ≡ read_on (tables sheet n t) s
    unfolding read_on
    read_marked n' w e = rw (cur_marked e) w

    pub write_marked : (n' : List ℕ) → tables sheet n' t' ≡ unlink (tables sheet n t) s → m ≡ 1 → tables sheet n' t' ≡ write_on (tables sheet n t) s
    unfolding write_on
    write_marked n' w e = rw (cur_marked e) w

    module _ (k : ℕ) (is_kind : k ≡ node_word sheet n c kind_at) where
      pub read_reader : tables sheet n t' ≡ pass (tables sheet n t) s → k ≡ 1 → m ≢ 1 → tables sheet n t' ≡ read_on (tables sheet n t) s
      unfolding read_on
      read_reader w e d = rw (cur_unmarked d, eq-eqb (node_word sheet n (seat_word sheet t s cur_at) kind_at) 1 (rw is_cur at (sym is_kind ∙ e))) w

      pub read_writer : t' ≡ put_seat sheet t s phase_at 4 → k ≢ 1 → m ≢ 1 → tables sheet n t' ≡ read_on (tables sheet n t) s
      unfolding read_on
      read_writer w e d = rw (cur_unmarked d, ne_eqb (node_word sheet n (seat_word sheet t s cur_at) kind_at) 1 (λ q. e (is_kind ∙ rw (← is_cur) at q)), w)

    module _ (b : Bool) (is_before : b ≡ ends_before (tables sheet n t) s) where
      pub write_past : tables sheet n t' ≡ pass (tables sheet n t) s → b ≡ true → m ≢ 1 → tables sheet n t' ≡ write_on (tables sheet n t) s
      unfolding write_on ends_before
      write_past w e d = rw (cur_unmarked d, sym is_before ∙ e) w

      pub write_clash : (n' : List ℕ) → tables sheet n' t' ≡ withdraw (tables sheet n t) s → b ≡ false → m ≢ 1 → tables sheet n' t' ≡ write_on (tables sheet n t) s
      unfolding write_on ends_before
      write_clash n' w e d = rw (cur_unmarked d, sym is_before ∙ e) w

-- ---- a reader validates
module _ (sheet : Bool) (n t t' : List ℕ) (s : ℕ) (b : Bool) (is_past_cur : b ≡ is_past (tables sheet n t) s) where
  pub reader_holds : (n' : List ℕ) → tables sheet n' t' ≡ hold (tables sheet n t) s → b ≡ true → tables sheet n' t' ≡ reader_validating (tables sheet n t) s
  unfolding reader_validating is_past
  reader_holds n' w e = rw (sym is_past_cur ∙ e) w

  pub reader_on : (n' : List ℕ) → tables sheet n' t' ≡ read_on (tables sheet n t) s → b ≡ false → tables sheet n' t' ≡ reader_validating (tables sheet n t) s
  unfolding reader_validating read_on is_past
  reader_on n' w e = rw (sym is_past_cur ∙ e) w

-- ---- a writer validates
module _ (sheet : Bool) (n t t' : List ℕ) (s o c : ℕ) (is_cur : c ≡ seat_word sheet t s cur_at) (is_own : o ≡ seat_word sheet t s own_at) where
  at_own : c ≡ o → eqb (seat_word sheet t s cur_at) (seat_word sheet t s own_at) ≡ true
  at_own e = eq-eqb (seat_word sheet t s cur_at) (seat_word sheet t s own_at) (sym is_cur ∙ e ∙ is_own)

  not_own : c ≢ o → eqb (seat_word sheet t s cur_at) (seat_word sheet t s own_at) ≡ false
  not_own d = ne_eqb (seat_word sheet t s cur_at) (seat_word sheet t s own_at) (λ e. d (is_cur ∙ e ∙ sym is_own))

  pub writer_holds : (n' : List ℕ) → tables sheet n' t' ≡ hold (tables sheet n t) s → c ≡ o → tables sheet n' t' ≡ writer_validating (tables sheet n t) s
  unfolding writer_validating
  writer_holds n' w e = rw (at_own e) w

  pub writer_ends : (n' : List ℕ) → tables sheet n' t' ≡ withdraw (tables sheet n t) s → c ≡ 0 → c ≢ o → tables sheet n' t' ≡ writer_validating (tables sheet n t) s
  unfolding writer_validating
  writer_ends n' w e d = rw (not_own d, eq-eqb (seat_word sheet t s cur_at) 0 (sym is_cur ∙ e)) w

  pub writer_on : (n' : List ℕ) → tables sheet n' t' ≡ write_on (tables sheet n t) s → c ≢ 0 → c ≢ o → tables sheet n' t' ≡ writer_validating (tables sheet n t) s
  unfolding writer_validating write_on
  writer_on n' w e d = rw (not_own d, ne_eqb (seat_word sheet t s cur_at) 0 (λ q. e (is_cur ∙ q))) w

-- ---- by the comparison
module _ (sheet : Bool) (n t t' : List ℕ) (s c o : ℕ) (r : ℤ) where
  way : r ≡ compare (claim_of (tables sheet n []) c) (claim_of (tables sheet n []) o) → c ≡ seat_word sheet t s cur_at → o ≡ seat_word sheet t s own_at
      → compare (claim_of (tables sheet n t) (seat_word sheet t s cur_at)) (claim_of (tables sheet n t) (seat_word sheet t s own_at)) ≡ r
  way q pc po = rw (← pc, ← po) (sym q)

  pub walk_clash : t' ≡ put_seat sheet t s phase_at 2 → of_z w32 r ≡ 0 → r ≡ compare (claim_of (tables sheet n []) c) (claim_of (tables sheet n []) o) → c ≡ seat_word sheet t s cur_at → o ≡ seat_word sheet t s own_at
      → tables sheet n t' ≡ walk_by_comparison (tables sheet n t) s
  unfolding walk_by_comparison
  walk_clash w e q pc po =
      rw w (sym (rw (way q pc po) (at_zero r _ _ _ (rw q (compare_fits (claim_of (tables sheet n []) c) (claim_of (tables sheet n []) o))) e)))

  pub walk_before : (n' : List ℕ) → tables sheet n' t' ≡ insert (tables sheet n t) s → lt_z (to_z w32 (of_z w32 r)) (pos 0) ≡ true → r ≡ compare (claim_of (tables sheet n []) c) (claim_of (tables sheet n []) o) → c ≡ seat_word sheet t s cur_at
      → o ≡ seat_word sheet t s own_at → tables sheet n' t' ≡ walk_by_comparison (tables sheet n t) s
  unfolding walk_by_comparison
  walk_before n' w e q pc po =
      w ∙ sym (rw (way q pc po) (below_zero r _ _ _ (rw q (compare_fits (claim_of (tables sheet n []) c) (claim_of (tables sheet n []) o))) e))

  pub walk_after : tables sheet n t' ≡ pass (tables sheet n t) s → of_z w32 r ≢ 0 → lt_z (to_z w32 (of_z w32 r)) (pos 0) ≡ false → r ≡ compare (claim_of (tables sheet n []) c) (claim_of (tables sheet n []) o)
      → c ≡ seat_word sheet t s cur_at → o ≡ seat_word sheet t s own_at → tables sheet n t' ≡ walk_by_comparison (tables sheet n t) s
  unfolding walk_by_comparison
  walk_after w d e q pc po =
      w ∙ sym (rw (way q pc po) (above_zero r _ _ _ (rw q (compare_fits (claim_of (tables sheet n []) c) (claim_of (tables sheet n []) o))) d e))

-- ---- waiting, of both kinds
pub to_enter_is : (sheet : Bool) (n t t' : List ℕ) (s : ℕ) → tables sheet n t' ≡ wake_to 1 (tables sheet n t) s → tables sheet n t' ≡ waiting_to_enter (tables sheet n t) s
unfolding wake_to waiting_to_enter
to_enter_is sheet n t t' s w = w

pub reader_is : (sheet : Bool) (n t t' : List ℕ) (s : ℕ) → tables sheet n t' ≡ wake_to 3 (tables sheet n t) s → tables sheet n t' ≡ reader_waiting (tables sheet n t) s
unfolding wake_to reader_waiting
reader_is sheet n t t' s w = w

-- ---- entering
pub entering_is : (sheet : Bool) (n t t₁ t' : List ℕ) (s h : ℕ) → t' ≡ put_seat sheet t₁ s cur_at h → t₁ ≡ put_seat sheet t s phase_at 1 → h ≡ link_word sheet n 0 → tables sheet n t' ≡ entering (tables sheet n t) s
unfolding entering
entering_is sheet n t t₁ t' s h p q e = rw (p, q, e)

-- ---- the answer
module _ (sheet : Bool) (n t : List ℕ) (s : ℕ) where
  pub waiting_is : (o c : ℕ) (r : SharedRun) → r ≡ shared (claim_of (tables sheet n []) c) (claim_of (tables sheet n []) o) → c ≡ seat_word sheet t s cur_at → o ≡ seat_word sheet t s own_at
      → wait c r.first r.end ≡ waiting (tables sheet n t) s
  waiting_is o c r e pc po = rw (e, pc, po)

  module _ (p : ℕ) (is_phase : p ≡ seat_word sheet t s phase_at) where
    pub answer_wait : (a : Answer) → a ≡ waiting (tables sheet n t) s → (p ≡ 2) ⊎ (p ≡ 4) → a ≡ answer_of (tables sheet n t) s
    answer_wait a e w = e ∙ sym (answers_wait (tables sheet n t) s (rw (← is_phase) w))

    pub answer_held : p ≡ 5 → held ≡ answer_of (tables sheet n t) s
    answer_held e = sym (answers_held (tables sheet n t) s (sym is_phase ∙ e))

    pub answer_back : p ≡ 6 → back ≡ answer_of (tables sheet n t) s
    answer_back e = sym (answers_back (tables sheet n t) s (sym is_phase ∙ e))

    pub answer_on : ((p ≡ 2) ⊎ (p ≡ 4) → ⊥) → p ≢ 5 → p ≢ 6 → on ≡ answer_of (tables sheet n t) s
    unfolding answer_of
    answer_on w d e = rw (← is_phase, ne_eqb p 2 (λ q. w (inl q)), ne_eqb p 4 (λ q. w (inr q)), ne_eqb p 5 d, ne_eqb p 6 e)
