-- A step keeps sound shape in any sound tables, reached or not, and so do reserve, enter and release. Only the step that links own in can break
-- a clause, and only the last one: in tables that no calls have made, own may be on the list already.
use Prim.Native.Nat.{ℕ, ◌+◌, ◌*◌, ◌≤◌, ◌<◌}
use mathlib.Core.Path.{◌≡◌, refl, sym, ap, ◌∙◌, subst}
use mathlib.Core.Bool.{true, ◌||◌}
use mathlib.Core.Logic.{◌≢◌, ◌⊎◌, inl, inr}
use native.Mathlib.Omega.{arith}
use lib.ListN.{length}
use Rattle.rules.specs.Notation.{◌is◌}
use Rattle.rules.specs.Tables.{Tables, before_nodes, node_width, put_link, node_count, seat_count, phase_at, link, next, head, phase, own, prev, cur, set_link, set_mark, set_phase, set_prev, set_cur, count_word}
use Rattle.rules.specs.Comparison.{Claim, claim_of}
use Rattle.rules.specs.Shape.{ends_within, sound}
use Rattle.rules.specs.Reach.{met, listed, others_reach, free, lowest_free, Reach, there}
use Rattle.rules.specs.Fetch.{Fetched, write_claim, reserve_for, take_node, taken_out}
use Rattle.rules.specs.Answers.{Answer, Done}
use Rattle.rules.specs.Steps.{move_to, link_in, pass, kind_of, hold, withdraw, leave, refetched, entering}
use Rattle.rules.specs.Calls.{reserved, reserve, enter, step, release}
use Rattle.rules.specs.Play.{Call, reserve_call, enter_call, step_call, release_call, call}
use Rattle.rules.specs.Title.{AllWithin}
use Rattle.rules.proofs.Ground.Logic.{branch, or_neither, not_true, clash}
use Rattle.rules.proofs.Laws.Words.{link_put_same, link_put_other, put_link_length, node_count_law}
use Rattle.rules.proofs.Laws.Shape.{Counts, is_sound, sound_is, in_5, in_6, in_7, NoneOfSheet}
use Rattle.rules.proofs.Ground.Counting.{lowest_has}
use Rattle.rules.proofs.Ground.Following.{reach_target, ends_tail, no_circle, unlink_keeps_ends, unlink_adds_none}
use Rattle.rules.proofs.Ground.Pigeonhole.{short}
use Rattle.rules.proofs.Laws.Listed.{reach_met}
use Rattle.rules.proofs.Invariant.Clauses.{Named, nothing, node, SeatShape, OnList, Ending}
use Rattle.rules.specs.Refusing.{Proper, WritesOnSheet}
use Rattle.rules.proofs.Invariant.Known.{named_in, named_proper}
use Rattle.rules.proofs.Invariant.SeatShapes.{not_waiting, on_its_way, at_rest as resting_seat, idle_seat}
use Rattle.rules.proofs.Rules.Effects.{Room, only_links, same_nodes}
use Rattle.rules.proofs.Ground.Deciding.{if_same}
use Rattle.rules.proofs.Invariant.View.{Nodes, seats_of}
use Rattle.rules.proofs.Invariant.Unlink.{relink_shape}
use Rattle.rules.proofs.Keeping.Good.{link_in_words}
use Rattle.rules.proofs.Rules.RuleEffects.{phase_stored, cur_stored, place_stored, start_stored, hold_stored, withdraw_stored, leave_stored, reserve_stored, enter_stored}
use Rattle.rules.proofs.Rules.Reasons.{Unlinking, takes_out, goes_past, Starting, as_reader, as_writer, on_sheet, Inserting, links_in, restarts, rereads, Walking, inserts, unlinks, passes, waits, Waking, wakes, stays, reader_holds, reader_unlinks, reader_passes, reader_waits, writer_holds, writer_unlinks, writer_passes, withdraws, Validating, validates_reader, validates_writer, Fetching, found, found_then, none, Stepping, in_1, in_2, in_3, in_4, in_6, in_7 as steps_in_7, at_rest}
use Rattle.rules.proofs.Rules.Accepting.{Reserving, reserve_refused, reserve_accepted, reserving, Entering, enter_refused, enter_accepted, enters, Stepped, step_refused, step_accepted, stepped, Releasing, release_refused, release_accepted, releasing}
use Rattle.rules.proofs.Keeping.Aside.{busy as busy_in, busy_ordinary, busy_still, ordinary_in_3, ordinary_in_4, all_zero, node_room, seat_room, linked_in}
use Rattle.rules.proofs.Frames.CountFrames.{counts_kept}
use Rattle.rules.proofs.Frames.TitleFrames.{within_kept}
use Rattle.rules.proofs.Keeping.FetchKeeps.{written}
use Rattle.rules.proofs.Keeping.TakeOut.{taken_out_keeps}
use Rattle.rules.proofs.Soundness.SoundShape.{SoundView, Shaped, list_ending, seat_moves, link_passes_over, claim_marked, claim_put, count_put, sound_shaped}
use Rattle.rules.proofs.Soundness.SoundReached.{shaped_sound}
use Rattle.rules.proofs.Laws.NodesAlone.{taken_out_profile}

-- ---- fetch
-- prev while the marked nodes are taken out
record OnWay (N S : ℕ) (t : Tables) (p : ℕ) : Type 0 where
  shaped : Shaped N S t
  in_table : p ≤ N
  goes_to_end : Ending (link t) (link t p)
  no_way_back : Reach (link t) p (link t p) → ⊥

module _ {N S : ℕ} (t : Tables) (p c : ℕ) (w : OnWay N S t p) (e : link t p ≡ c) (d : c ≢ 0) where
  pos : 0 < c
  pos = omega arith

  rest : Ending (link t) (next t c)
  rest = let k = ends_tail (rw e at w.goes_to_end.1) d in (k.0, k.1)

  passed_over : OnWay N S (set_link t p (next t c)) p
  passed_over =
      let v = next t c in
      let u = set_link t p v in
      let new : link u p ≡ v = link_put_same t.sheet t.nodes p v (node_room w.shaped.aside p w.in_table) in
      let old : (a : ℕ) → a ≢ p → link u a ≡ link t a = λ a x. link_put_other t.sheet t.nodes p a v (λ q. x (sym q)) in
      let left = unlink_keeps_ends (link t) (link u) p c pos e new old rest.1 in
      record {
        shaped = link_passes_over w.shaped p c w.in_table d e;
        in_table = w.in_table;
        goes_to_end = rw new (left.0, left.1);
        no_way_back = λ r. w.no_way_back (rw e (there pos (unlink_adds_none (link t) (link u) p c pos e new old (rw new at r))));
      }

  gone_on : OnWay N S t c
  gone_on = record {
    shaped = w.shaped;
    in_table = rw e at (named_in (w.shaped.view.nodes.links p));
    goes_to_end = rest;
    no_way_back = λ r. no_circle (rw e at w.goes_to_end.1) pos r;
  }

module _ {N S : ℕ} {t : Tables} (g : Shaped N S t) where
  list_short : g.view.ends.0 ≤ node_count t
  list_short =
      rw (node_count_law t N g.aside.nodes_long)
      (short N (λ b. named_in (g.view.nodes.links b)) (named_in (g.view.nodes.links 0)) g.view.ends.1)

  taken_out_shaped : Shaped N S (taken_out t)
  taken_out_shaped =
      (taken_out_keeps (OnWay N S)
      (λ t p w. node_room w.shaped.aside p w.in_table)
      (λ t p w. w.no_way_back)
      (λ t p c w e d m. passed_over t p c w e d)
      (λ t p c w e d m. gone_on t p c w e d)
      t
      (record { shaped = g; in_table = omega arith; goes_to_end = g.view.ends; no_way_back = λ r. let h = reach_target r in omega arith })
      g.view.ends.0 g.view.ends.1 list_short).1.shaped

  free_off_list : (s a : ℕ) → free t s a ≡ true → OnList (link t) a → ⊥
  unfolding free listed
  free_off_list s a e r =
      let on = met (node_count t) t (head t) a in
      let small : (b : ℕ) → link t b ≤ N = λ b. named_in (g.view.nodes.links b) in
      let is_on : on ≡ true = rw (node_count_law t N g.aside.nodes_long) (reach_met t a N small (small 0) r) in
      clash on is_on (or_neither on (others_reach t s a) (not_true (on || others_reach t s a) e)).0

  take_shaped : (s a : ℕ) (c : Claim) → s < S → lowest_free t s ≡ a → a ≢ 0 → Proper c → WritesOnSheet t c → Shaped N S (take_node t s a c)
  unfolding take_node reserve_for write_claim lowest_free
  take_shaped s a c s_in e z p k =
      let w = lowest_has (node_count t) (free t s) a e z in
      let l : a ≤ N = rw (node_count_law t N g.aside.nodes_long) at w.1 in
      let put = claim_put g a c z l p k (free_off_list s a w.0) in
      let there : Named N (claim_of (write_claim t a c)) a = node (omega arith) l (written t a c z (node_room g.aside a l) p).proper in
      seat_moves put (reserve_stored (write_claim t a c) s (seat_room g.aside s s_in) a) (busy_in (omega arith) (omega arith) (omega arith) (omega arith)) (resting_seat (in_7 refl) (omega arith) there)

fetch_shaped : {N S : ℕ} {t : Tables} {s : ℕ} {c : Claim} {f : Fetched} → Shaped N S t → s < S → Proper c → WritesOnSheet t c
    → Fetching t s c f → Shaped N S f.after
fetch_shaped {s = s} {c} g s_in p k (found a e z) = take_shaped g s a c s_in e z p k
fetch_shaped {t = t} {s} {c} g s_in p k (found_then a e e' z) = take_shaped (taken_out_shaped g) s a c s_in e' z p (rw (taken_out_profile t) k)
fetch_shaped g s_in p k (none e e') = g

-- ---- the other rules
-- the phase to which the step that links own in comes: 3, or 5 on a sheet
abbrev pub LinkedNow : ℕ → Type 0
LinkedNow P = (P ≡ 3) ⊎ (P ≡ 5)

-- a count is no link
held_ending : (t : Tables) (s : ℕ) → Ending (link (hold t s)) (head (hold t s)) → Ending (link t) (head t)
unfolding hold
held_ending t s e =
    subst (λ (l : ℕ → ℕ). Ending l (l 0)) (sym (ap (λ (n : Nodes). n.link) (same_nodes (move_to t s 5 0 0) (kind_of t s) (count_word t (kind_of t s) + 1)))) e

-- walking or validating
abbrev OnFoot : ℕ → Type 0
OnFoot P = (P ≡ 1) ⊎ (P ≡ 3)

foot_busy : {P : ℕ} → OnFoot P → P ≢ 0
foot_busy (inl e) = omega arith
foot_busy (inr e) = omega arith

module _ {N S : ℕ} {t : Tables} (g : Shaped N S t) (s : ℕ) (s_in : s < S) (busy : phase t s ≢ 0) where
  room : Room t s
  room = seat_room g.aside s s_in

  abbrev shape : SeatShape N (claim_of t) (phase t s) (own t s) (prev t s) (cur t s)
  shape = g.view.seats s

  own_pos : 0 < own t s
  own_pos = shape.owning busy

  own_proper : Proper (claim_of t (own t s))
  own_proper = named_proper shape.own_named own_pos

  on_foot : {P Q C : ℕ} → OnFoot P → Named N (claim_of t) Q → Named N (claim_of t) C → SeatShape N (claim_of t) P (own t s) Q C
  on_foot p q c =
      on_its_way
      (foot_busy p)
      (elim p [ inl e ↦ omega arith | inr e ↦ omega arith ])
      (not_waiting (elim p [ inl e ↦ omega arith | inr e ↦ omega arith ]) (elim p [ inl e ↦ omega arith | inr e ↦ omega arith ]))
      own_pos shape.own_named q c

  cur_shaped : OnFoot (phase t s) → (C : ℕ) → Named N (claim_of t) C → Shaped N S (set_cur t s C)
  cur_shaped p C c = seat_moves g (cur_stored t s room C) (busy_still (g.aside.seat s) refl busy) (on_foot p shape.prev_named c)

  place_shaped : OnFoot (phase t s) → (Q C : ℕ) → Named N (claim_of t) Q → Named N (claim_of t) C → Shaped N S (set_cur (set_prev t s Q) s C)
  place_shaped p Q C q c = seat_moves g (place_stored t s room Q C) (busy_still (g.aside.seat s) refl busy) (on_foot p q c)

  pass_shaped : OnFoot (phase t s) → Shaped N S (pass t s)
  unfolding pass
  pass_shaped p = place_shaped p (cur t s) (next t (cur t s)) shape.cur_named (g.view.nodes.links (cur t s))

  wake_shaped : {P : ℕ} → OnFoot P → NoneOfSheet t.sheet P → Shaped N S (set_phase t s P)
  wake_shaped {P} p n = seat_moves g (phase_stored t s room P) (record { phases = n; idle = λ z. absurd (foot_busy p z) }) (on_foot p shape.prev_named shape.cur_named)

  wait_shaped : (P : ℕ) → P ≢ 0 → P ≤ 4 → NoneOfSheet t.sheet P → cur t s ≢ 0 → Shaped N S (set_phase t s P)
  wait_shaped P z l n d =
      seat_moves g (phase_stored t s room P) (record { phases = n; idle = λ q. absurd (z q) }) (on_its_way z l (λ p. omega arith) own_pos shape.own_named shape.prev_named shape.cur_named)

  hold_shaped : Shaped N S (hold t s)
  unfolding hold
  hold_shaped = count_put (seat_moves g (hold_stored t s room) (busy_in (omega arith) (omega arith) (omega arith) (omega arith)) (resting_seat (in_5 refl) own_pos shape.own_named)) (kind_of t s) _

  enter_shaped : Shaped N S (entering t s)
  unfolding entering
  enter_shaped = seat_moves g (enter_stored t s room) (busy_in (omega arith) (omega arith) (omega arith) (omega arith)) (on_foot (inl refl) shape.prev_named (g.view.nodes.links 0))

  own_marked : Shaped N S (set_mark t (own t s) 1)
  own_marked = claim_marked g (own t s) (let o = own_pos in omega arith) (named_in shape.own_named) own_proper

  withdraw_shaped : phase t s ≡ 3 → Shaped N S (withdraw t s)
  unfolding withdraw
  withdraw_shaped e = seat_moves own_marked (withdraw_stored t s room) (busy_ordinary (ordinary_in_3 g.aside s e) (omega arith)) (resting_seat (in_6 refl) own_pos (own_marked.view.seats s).own_named)

  leave_shaped : Shaped N S (leave t s)
  unfolding leave
  leave_shaped = count_put (seat_moves own_marked (leave_stored t s room) all_zero (idle_seat refl)) (kind_of t s) _

module _ {N S : ℕ} {t : Tables} (g : Shaped N S t) (s : ℕ) (s_in : s < S) (busy : phase t s ≢ 0) where
  unlinking_shaped : {u : Tables} → OnFoot (phase t s) → cur t s ≢ 0 → Unlinking t s u → Shaped N S u
  unlinking_shaped p d (takes_out j) =
      let v = next t (cur t s) in
      let l = named_in (shape g s s_in busy).prev_named in
      let h = link_passes_over g (prev t s) (cur t s) l d j.to_cur in
      cur_shaped h s s_in busy p v (rw (link_put_same t.sheet t.nodes (prev t s) v (node_room g.aside (prev t s) l)) at (h.view.nodes.links (prev t s)))
  unlinking_shaped p d (goes_past e) = cur_shaped g s s_in busy p (next t (cur t s)) (g.view.nodes.links (cur t s))

  -- each link is as it was, or a claim's to a claim
  linked_ways : (a : ℕ) → (link (link_in t s) a ≡ link t a) ⊎ (Named N (claim_of t) a × Named N (claim_of t) (link (link_in t s) a))
  unfolding link_in
  linked_ways a =
      let h = shape g s s_in busy in
      let o = own t s in
      let p = prev t s in
      let c = cur t s in
      let own_linked = put_link t.sheet t.nodes o c in
      let long : before_nodes t.sheet + node_width * p ≤ length own_linked = rw (put_link_length t.sheet t.nodes o c) (node_room g.aside p (named_in h.prev_named)) in
      if_same a p
      (λ e. inr (rw e h.prev_named, rw (e, link_put_same t.sheet own_linked p o long) h.own_named))
      (λ d. let kept = link_put_other t.sheet own_linked p a o (λ e. d (sym e)) in
      if_same a o
      (λ e. inr (rw e h.own_named, rw (kept, e, link_put_same t.sheet t.nodes o c (node_room g.aside o (named_in h.own_named))) h.cur_named))
      (λ f. inl (kept ∙ link_put_other t.sheet t.nodes o a c (λ e. f (sym e)))))

  linked_shaped : Ending (link (link_in t s)) (head (link_in t s)) → Shaped N S (link_in t s)
  unfolding link_in
  linked_shaped e = record {
    aside = linked_in g.aside s;
    view = subst (λ n. SoundView N n (seats_of t)) (only_links t (link_in t s) (link_in_words t s))
        (record { nodes = relink_shape (link (link_in t s)) g.view.nodes linked_ways; seats = g.view.seats; ends = e });
  }

  starting_shaped : {u : Tables} → ends_within (node_count u) u (head u) ≡ true → Starting (link_in t s) s u → Shaped N S u
  unfolding link_in hold
  starting_shaped {u} e (as_reader n k) =
      let h = linked_shaped (list_ending u e) in
      seat_moves h (start_stored t s (room g s s_in busy) 3 (own t s) (next (link_in t s) (own t s))) (busy_ordinary n (omega arith))
      (on_foot h s s_in busy (inr refl) (h.view.seats s).own_named (h.view.nodes.links (own t s)))
  starting_shaped {u} e (as_writer n k) =
      let h = linked_shaped (list_ending u e) in
      seat_moves h (start_stored t s (room g s s_in busy) 3 0 (head (link_in t s))) (busy_ordinary n (omega arith))
      (on_foot h s s_in busy (inr refl) (nothing refl) (h.view.nodes.links 0))
  starting_shaped {u} e (on_sheet q) =
      hold_shaped (linked_shaped (held_ending (link_in t s) s (list_ending (hold (link_in t s) s) e))) s s_in busy

  -- "from the head, 0 is met after at most N nodes", asked of a seat that has come from phase 1 to one in which its claim is linked
  abbrev EndsIfLinked : Tables → Type 0
  EndsIfLinked u = LinkedNow (phase u s) → ends_within (node_count u) u (head u) ≡ true

  starting_phase : {u : Tables} → Starting (link_in t s) s u → LinkedNow (phase u s)
  unfolding link_in hold
  starting_phase (as_reader n k) = inl ((start_stored t s (room g s s_in busy) 3 (own t s) (next (link_in t s) (own t s))).at_s phase_at (omega arith))
  starting_phase (as_writer n k) = inl ((start_stored t s (room g s s_in busy) 3 0 (head (link_in t s))).at_s phase_at (omega arith))
  starting_phase (on_sheet q) = inr ((start_stored t s (room g s s_in busy) 5 0 0).at_s phase_at (omega arith))

  inserting_shaped : {u : Tables} → phase t s ≡ 1 → EndsIfLinked u → Inserting t s u → Shaped N S u
  inserting_shaped e f (links_in j w) = starting_shaped (f (starting_phase w)) w
  inserting_shaped e f (restarts j m) = place_shaped g s s_in busy (inl e) 0 (head t) (nothing refl) (g.view.nodes.links 0)
  inserting_shaped e f (rereads j m) = cur_shaped g s s_in busy (inl e) (link t (prev t s)) (g.view.nodes.links (prev t s))

  walking_shaped : {u : Tables} → phase t s ≡ 1 → EndsIfLinked u → Walking t s u → Shaped N S u
  walking_shaped e f (inserts h w) = inserting_shaped e f w
  walking_shaped e f (unlinks d m w) = unlinking_shaped (inl e) d w
  walking_shaped e f (passes d m h) = pass_shaped g s s_in busy (inl e)
  walking_shaped e f (waits d m h h') = wait_shaped g s s_in busy 2 (omega arith) (omega arith) (λ q. (omega arith, omega arith, omega arith)) d

  waking_shaped : {P : ℕ} {u : Tables} → OnFoot P → NoneOfSheet t.sheet P → Waking t s P u → Shaped N S u
  waking_shaped p n (wakes m) = wake_shaped g s s_in busy p n
  waking_shaped p n (stays m) = g

  validating_shaped : {u : Tables} → phase t s ≡ 3 → Validating t s u → Shaped N S u
  validating_shaped e (validates_reader k (reader_holds f)) = hold_shaped g s s_in busy
  validating_shaped e (validates_reader k (reader_unlinks d m w)) = unlinking_shaped (inr e) d w
  validating_shaped e (validates_reader k (reader_passes d m f)) = pass_shaped g s s_in busy (inr e)
  validating_shaped e (validates_reader k (reader_waits d m f h)) = wait_shaped g s s_in busy 4 (omega arith) (omega arith) (λ q. absurd (clash t.sheet q (ordinary_in_3 g.aside s e))) d
  validating_shaped e (validates_writer k (writer_holds f)) = hold_shaped g s s_in busy
  validating_shaped e (validates_writer k (writer_unlinks x d m w)) = unlinking_shaped (inr e) d w
  validating_shaped e (validates_writer k (writer_passes x d m f)) = pass_shaped g s s_in busy (inr e)
  validating_shaped e (validates_writer k (withdraws x f)) = withdraw_shaped g s s_in busy e

  stepping_shaped : {d : Done Answer} → (phase t s ≡ 1 → EndsIfLinked d.after) → Stepping t s d → Shaped N S d.after
  unfolding refetched
  stepping_shaped f (in_1 e w) = walking_shaped e (f e) w
  stepping_shaped f (in_2 e w) = waking_shaped (inl refl) (λ q. (omega arith, omega arith, omega arith)) w
  stepping_shaped f (in_3 e w) = validating_shaped e w
  stepping_shaped f (in_4 e w) = waking_shaped (inr refl) (λ q. absurd (clash t.sheet q (ordinary_in_4 g.aside s e))) w
  stepping_shaped f (in_6 {f = fetched} e w) =
      branch (λ (d : Done Answer). Shaped N S d.after) (fetched.node is 0)
      (λ z. g)
      (λ z. fetch_shaped g s_in (own_proper g s s_in busy) (λ q. g.aside.kinds q (own t s)) w)
  stepping_shaped f (steps_in_7 e) = enter_shaped g s s_in busy
  stepping_shaped f (at_rest a b c d e f') = g

-- ---- the calls
-- what a call keeps and the shape does not show: the counts are right, and no claim ends beyond the title
abbrev Fitting : Tables → Type 0
Fitting u = Counts u × AllWithin u

fitting_kept : (t : Tables) (c : Call) → sound t ≡ true → Fitting (call t c).after
fitting_kept t c e = let w = is_sound t e in (counts_kept t c w.counts, within_kept t c w.all_within)

module _ (t : Tables) (s : ℕ) where
  shaped_after : {u : Tables} → sound t ≡ true → Shaped (node_count t) (seat_count t) u → Fitting u → sound u ≡ true
  shaped_after {u} e h fits =
      let w = is_sound t e in
      sound_is u (shaped_sound h (record { some_nodes = w.some_nodes; few_nodes = w.few_nodes; some_seats = w.some_seats; few_seats = w.few_seats }) fits.0 fits.1)

  step_sound : {d : Done Answer} → sound t ≡ true → Fitting d.after → (phase t s ≡ 1 → LinkedNow (phase d.after s) → ends_within (node_count d.after) d.after (head d.after) ≡ true) → Stepped t s d → sound d.after ≡ true
  step_sound e c f (step_refused number r) = e
  step_sound e c f (step_accepted y h b w) = shaped_after e (stepping_shaped (sound_shaped (is_sound t e)) s h b f w) c

  pub step_keeps_sound : sound t ≡ true
      → (phase t s ≡ 1 → LinkedNow (phase (step t s).after s) → ends_within (node_count (step t s).after) (step t s).after (head (step t s).after) ≡ true)
      → sound (step t s).after ≡ true
  unfolding call
  step_keeps_sound e f = step_sound e (fitting_kept t (step_call s) e) f (stepped t s)

  reserve_sound : {c : Claim} {d : Done Answer} → sound t ≡ true → Fitting d.after → Reserving t s c d → sound d.after ≡ true
  unfolding reserved
  reserve_sound e k (reserve_refused number r) = e
  reserve_sound e k (reserve_accepted {f = f} y h p x i z w) =
      branch (λ (d : Done Answer). Fitting d.after → sound d.after ≡ true) (f.node is 0)
      (λ q k. e)
      (λ q k. shaped_after e (fetch_shaped (sound_shaped (is_sound t e)) h p x w) k)
      k

  pub reserve_keeps_sound : (c : Claim) → sound t ≡ true → sound (reserve t s c).after ≡ true
  unfolding call
  reserve_keeps_sound c e = reserve_sound e (fitting_kept t (reserve_call s c) e) (reserving t s c)

  enter_sound : {d : Done Answer} → sound t ≡ true → Fitting d.after → Entering t s d → sound d.after ≡ true
  enter_sound e c (enter_refused number r) = e
  enter_sound e c (enter_accepted y h p) = shaped_after e (enter_shaped (sound_shaped (is_sound t e)) s h (omega arith)) c

  pub enter_keeps_sound : sound t ≡ true → sound (enter t s).after ≡ true
  unfolding call
  enter_keeps_sound e = enter_sound e (fitting_kept t (enter_call s) e) (enters t s)

  release_sound : {d : Done Answer} → sound t ≡ true → Fitting d.after → Releasing t s d → sound d.after ≡ true
  release_sound e c (release_refused number r) = e
  release_sound e c (release_accepted y h p) = shaped_after e (leave_shaped (sound_shaped (is_sound t e)) s h (omega arith)) c

  pub release_keeps_sound : sound t ≡ true → sound (release t s).after ≡ true
  unfolding call
  release_keeps_sound e = release_sound e (fitting_kept t (release_call s) e) (releasing t s)
