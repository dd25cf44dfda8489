-- How a call moves the two counts: who comes to hold adds one to the word of its kind, who is released takes one off, and nothing else changes
-- them. Every other seat holds on with the claim it had, so where the words were right they stay right. Of any tables, reached or not: a call
-- on damaged ones changes nothing.
use Rattle.std.specs.Prelude.{if◌then◌else◌}
use Prim.Native.Nat.{ℕ, ◌+◌, ◌-◌, ◌≤◌, ◌<◌}
use mathlib.Core.Path.{◌≡◌, refl, sym, ap, ◌∙◌}
use mathlib.Core.Bool.{Bool, true, false}
use mathlib.Core.List.{List}
use mathlib.Core.Logic.{◌≢◌, ◌⊎◌, inl, inr}
use native.Mathlib.Omega.{arith}
use lib.ListN.{length}
use borrow.Author.Tests.{eq-eqb, ne_eqb}
use Rattle.rules.specs.Notation.{◌is◌}
use Rattle.rules.specs.Tables.{Tables, before_nodes, node_count, seat_count, phase_at, own_at, kind_at, mark_at, readers_at, writers_at, readers, writers, count_at, count_word, phase, own, set_mark, clear_seat, fresh}
use Rattle.rules.specs.Comparison.{Claim}
use Rattle.rules.specs.Shape.{holds_with, holders_of_kind, sound}
use Rattle.rules.specs.Fetch.{Fetched, write_claim, take_node, taken_out, reserve_for}
use Rattle.rules.specs.Answers.{Answer, refused, Done, done}
use Rattle.rules.specs.Steps.{move_to, kind_of, hold, leave, refetched, entering, link_in}
use Rattle.rules.specs.Calls.{clear, reserved}
use Rattle.rules.specs.Play.{Call, reserve_call, enter_call, step_call, release_call, call, seat_of}
use Rattle.rules.specs.Run.{run}
use Rattle.rules.specs.Reached.{Reached}
use Rattle.rules.specs.Refusing.{damaged}
use Rattle.rules.specs.Apart.{NodesKept, NoPlace}
use Rattle.rules.specs.HowMany.{CountsRight, CountsMove, stay, one_more, one_less}
use Rattle.rules.proofs.Ground.Logic.{branch}
use Rattle.rules.proofs.Ground.Deciding.{if_same, if_true}
use Rattle.rules.proofs.Ground.Counting.{count_none, count_gap, count_change}
use Rattle.rules.proofs.Laws.Words.{count_low, count_not_head, count_not_title, count_put_same, count_put_other, node_put_top, top_put_node, put_node_length, same_seat_count, fresh_top, fresh_seat_word}
use Rattle.rules.proofs.Laws.Shape.{IsKind, Counts, is_sound}
use Rattle.rules.proofs.Laws.Counts.{wrong_damaged, kinds_apart, own_kind, holder_counts}
use Rattle.rules.proofs.Laws.NodesAlone.{taken_out_profile, taken_out_seats}
use Rattle.rules.proofs.Laws.RunSteps.{run_keeps, reached_has}
use Rattle.rules.proofs.Rules.Effects.{Room}
use Rattle.rules.proofs.Rules.RuleEffects.{hold_stored, leave_stored, reserve_stored, enter_stored}
use Rattle.rules.proofs.Rules.Reasons.{Fetching, found, found_then, none, Stepping, in_1, in_2, in_3, in_4, in_6, in_7, at_rest}
use Rattle.rules.proofs.Rules.Accepting.{Reserving, reserve_refused, reserve_accepted, reserving, Entering, enter_refused, enter_accepted, enters, Stepped, step_refused, step_accepted, stepped, Releasing, release_refused, release_accepted, releasing}
use Rattle.rules.proofs.Rules.RefusedExactly.{table_refused, clear_accepted}
use Rattle.rules.proofs.Frames.SeatFrames.{sound_room, other_seats_kept}
use Rattle.rules.proofs.Frames.NodeFrames.{walking_unless_held, linking_in, linked_kind, waking, unless_held, fetching, entering_kept}
use Rattle.rules.proofs.Frames.ClaimFrames.{others_claims_kept}
use Rattle.rules.proofs.Frames.AfterStep.{ComesToHold, as_found, linked_once, Left, stepping_leaves}

abbrev WordsStay : Tables → Tables → Type 0
WordsStay t u = (k : ℕ) → count_word u k ≡ count_word t k

words_stay : {L M C : ℕ → Type 0} {t u : Tables} → NodesKept L M C NoPlace t u → WordsStay t u
words_stay {t = t} f k = f.word_at (count_at k) (count_low t.sheet k) (count_not_head k) (λ z. z)

-- ---- what a call does to its seat, as the counts see it; only on sound tables, and for a seat that is there, is anything done
abbrev Accepting : Tables → ℕ → Type 0
Accepting t s = (sound t ≡ true) × (s < seat_count t)

data Outcome (t : Tables) (s : ℕ) (u : Tables) : Type 0 where
  unchanged : u ≡ t → Outcome t s u
  moves_on : Accepting t s → phase t s ≢ 5 → phase u s ≢ 5 → WordsStay t u → Outcome t s u
  comes_to_hold : Accepting t s → phase t s ≢ 0 → phase t s ≢ 5 → ComesToHold t s u → Outcome t s u
  gives_up : Accepting t s → phase t s ≡ 5 → u ≡ leave t s → Outcome t s u

left_outcome : {t u : Tables} {s : ℕ} → Accepting t s → Left t u s → phase t s ≢ 0 → phase t s ≢ 5 → ComesToHold t s u ⊎ WordsStay t u
    → Outcome t s u
left_outcome a l b d (inl e) = comes_to_hold a b d e
left_outcome {u = u} {s} a l b d (inr f) =
    if_same (phase u s) 5 (λ p. elim (l.holding p) [ inl e ↦ unchanged e | inr e ↦ comes_to_hold a b d e ]) (λ p. moves_on a d p f)

taken_not_held : (t : Tables) (s a : ℕ) (c : Claim) → Room t s → phase (take_node t s a c) s ≢ 5
unfolding take_node write_claim reserve_for
taken_not_held t s a c r = rw ((reserve_stored (write_claim t a c) s r a).at_s phase_at (omega arith)) (omega arith)

fetch_outcome : {t : Tables} {s : ℕ} {c : Claim} {f : Fetched} → Accepting t s → phase t s ≢ 5 → Fetching t s c f → Outcome t s f.after
fetch_outcome {t} {s} {c} y d (found a e z) = moves_on y d (taken_not_held t s a c (sound_room t s y.0 y.1)) (words_stay (fetching (found a e z)))
fetch_outcome {t} {s} {c} y d (found_then a e e' z) =
    moves_on y d (taken_not_held (taken_out t) s a c (rw (taken_out_profile t, taken_out_seats t) (sound_room t s y.0 y.1))) (words_stay (fetching (found_then a e e' z)))
fetch_outcome y d (none e e') = unchanged refl

module _ (t : Tables) (s : ℕ) where
  leaves : {d : Done Answer} → Accepting t s → phase t s ≢ 0 → Stepping t s d → Left t d.after s
  leaves a b w = stepping_leaves t s (sound_room t s a.0 a.1) b w

  entering_outcome : Accepting t s → phase t s ≡ 7 → Outcome t s (entering t s)
  unfolding entering
  entering_outcome a e =
      moves_on a (omega arith) (rw ((enter_stored t s (sound_room t s a.0 a.1)).at_s phase_at (omega arith)) (omega arith)) (words_stay (entering_kept t s))

  stepping_outcome : {d : Done Answer} → Accepting t s → phase t s ≢ 0 → Stepping t s d → Outcome t s d.after
  unfolding refetched
  stepping_outcome a b (in_1 e w) =
      left_outcome a (leaves a b (in_1 e w)) b (omega arith)
      (elim (walking_unless_held t s w) [ inl q ↦ inl (linked_once q.1) | inr f ↦ inr (words_stay f) ])
  stepping_outcome a b (in_2 e w) = left_outcome a (leaves a b (in_2 e w)) b (omega arith) (inr (words_stay (waking t s w)))
  stepping_outcome a b (in_3 e w) =
      left_outcome a (leaves a b (in_3 e w)) b (omega arith) (elim (unless_held t s w) [ inl q ↦ inl (as_found q) | inr f ↦ inr (words_stay f) ])
  stepping_outcome a b (in_4 e w) = left_outcome a (leaves a b (in_4 e w)) b (omega arith) (inr (words_stay (waking t s w)))
  stepping_outcome a b (in_6 {f = f} e w) =
      branch (λ (d : Done Answer). Outcome t s d.after) (f.node is 0)
      (λ z. unchanged refl) (λ z. fetch_outcome a (omega arith) w)
  stepping_outcome a b (in_7 e) = entering_outcome a e
  stepping_outcome a b (at_rest d₁ d₂ d₃ d₄ d₆ d₇) = unchanged refl

  stepped_outcome : {d : Done Answer} → Stepped t s d → Outcome t s d.after
  stepped_outcome (step_refused k x) = unchanged refl
  stepped_outcome (step_accepted e h b w) = stepping_outcome (e, h) b w

  reserved_outcome : {c : Claim} {d : Done Answer} → Reserving t s c d → Outcome t s d.after
  unfolding reserved
  reserved_outcome (reserve_refused k x) = unchanged refl
  reserved_outcome (reserve_accepted {f = f} e h p k i z w) =
      branch (λ (d : Done Answer). Outcome t s d.after) (f.node is 0)
      (λ q. unchanged refl) (λ q. fetch_outcome (e, h) (omega arith) w)

  entered_outcome : {d : Done Answer} → Entering t s d → Outcome t s d.after
  entered_outcome (enter_refused k x) = unchanged refl
  entered_outcome (enter_accepted e h p) = entering_outcome (e, h) p

  released_outcome : {d : Done Answer} → Releasing t s d → Outcome t s d.after
  released_outcome (release_refused k x) = unchanged refl
  released_outcome (release_accepted e h p) = gives_up (e, h) p refl

call_outcome : (t : Tables) (c : Call) → Outcome t (seat_of c) (call t c).after
unfolding call
call_outcome t (reserve_call s c) = reserved_outcome t s (reserving t s c)
call_outcome t (enter_call s) = entered_outcome t s (enters t s)
call_outcome t (step_call s) = stepped_outcome t s (stepped t s)
call_outcome t (release_call s) = released_outcome t s (releasing t s)

-- ---- the rules that count, word by word
module _ (t : Tables) (s : ℕ) (room : Room t s) (long : before_nodes t.sheet ≤ length t.nodes) where
  holds_then : phase (hold t s) s ≡ 5
  unfolding hold
  holds_then = (hold_stored t s room).at_s phase_at (omega arith)

  same_kind : kind_of (hold t s) s ≡ kind_of t s
  unfolding hold
  same_kind =
      rw ((hold_stored t s room).at_s own_at (omega arith))
      (node_put_top t.sheet t.nodes _ (own t s) kind_at _ (count_low t.sheet (kind_of t s)))

  hold_counts : count_word (hold t s) (kind_of t s) ≡ count_word t (kind_of t s) + 1
  unfolding hold
  hold_counts = count_put_same (move_to t s 5 0 0) (kind_of t s) _ long

  hold_counts_alone : (k : ℕ) → count_at k ≢ count_at (kind_of t s) → count_word (hold t s) k ≡ count_word t k
  unfolding hold
  hold_counts_alone k d = count_put_other (move_to t s 5 0 0) (kind_of t s) k _ d

-- what comes to hold counts by its kind in t, whether it is linked in first or not
record CountsOneMore (t : Tables) (s : ℕ) (u : Tables) : Type 0 where
  holds : phase u s ≡ 5
  kind_kept : kind_of u s ≡ kind_of t s
  counted : count_word u (kind_of t s) ≡ count_word t (kind_of t s) + 1
  alone : (k : ℕ) → count_at k ≢ count_at (kind_of t s) → count_word u k ≡ count_word t k

module _ (t : Tables) (s : ℕ) (a : Accepting t s) where
  room : Room t s
  room = sound_room t s a.0 a.1

  long : before_nodes t.sheet ≤ length t.nodes
  long = let n = (is_sound t a.0).nodes_length in omega arith

  held_counts : {u : Tables} → ComesToHold t s u → CountsOneMore t s u
  held_counts (as_found e) =
      rw e (record { holds = holds_then t s room long; kind_kept = same_kind t s room long; counted = hold_counts t s room long; alone = hold_counts_alone t s room long })
  held_counts (linked_once e) =
      let v = link_in t s in
      let kept = linking_in t s in
      let words = words_stay kept in
      let same = linked_kind t s in
      let room : Room v s = unfold link_in in room in
      let long : before_nodes v.sheet ≤ length v.nodes = rw (kept.same_profile, kept.same_length) long in
      rw e (record {
        holds = holds_then v s room long;
        kind_kept = same_kind v s room long ∙ same;
        counted = rw same at (hold_counts v s room long) ∙ ap (λ (n : ℕ). n + 1) (words (kind_of t s));
        alone = λ k d. hold_counts_alone v s room long k (rw same d) ∙ words k;
      })

  idle_then : phase (leave t s) s ≢ 5
  unfolding leave
  idle_then = rw ((leave_stored t s room).at_s phase_at (omega arith)) (omega arith)

  leave_counts : count_word (leave t s) (kind_of t s) ≡ count_word t (kind_of t s) - 1
  unfolding leave
  leave_counts =
      count_put_same (clear_seat (set_mark t (own t s) 1) s) (kind_of t s) _
      (rw (put_node_length t.sheet t.nodes (own t s) mark_at 1) long)

  leave_counts_alone : (k : ℕ) → count_at k ≢ count_at (kind_of t s) → count_word (leave t s) k ≡ count_word t k
  unfolding leave
  leave_counts_alone k d =
      count_put_other (clear_seat (set_mark t (own t s) 1) s) (kind_of t s) k _ d
      ∙ top_put_node t.sheet t.nodes (count_at k) (own t s) mark_at 1 (count_low t.sheet k)

-- ---- so the words move as the call's own seat does
pub counts_move : (t : Tables) (c : Call) → CountsMove (seat_of c) t (call t c).after
counts_move t c = moves (call_outcome t c)
  where
    moves : {u : Tables} → Outcome t (seat_of c) u → CountsMove (seat_of c) t u
    moves (unchanged e) = rw e (stay (λ h. h) (λ h. h) (λ k. refl))
    moves (moves_on a d d' f) = stay (λ h. absurd (d h)) (λ h. absurd (d' h)) f
    moves (comes_to_hold a b d e) =
        let s = seat_of c in
        let w = held_counts t s a e in
        one_more d w.holds w.counted w.alone
    moves (gives_up a p e) =
        let s = seat_of c in
        let some = holder_counts t a.0 s a.1 p in
        rw e (one_less p (idle_then t s a) (let w = leave_counts t s a in omega arith) (leave_counts_alone t s a))

-- ---- and where they were right they are right again
abbrev one : Bool → ℕ
one b = if b then 1 else 0

module _ (t : Tables) (s k : ℕ) (kd : IsKind k) where
  -- the word of a kind and what the seat itself adds to it
  moves_as_seat : {u : Tables} → Outcome t s u → count_word u k + one (holds_with t k s) ≡ count_word t k + one (holds_with u k s)
  moves_as_seat (unchanged e) = rw e
  moves_as_seat {u} (moves_on a d d' f) = rw (ne_eqb (phase t s) 5 d, ne_eqb (phase u s) 5 d', f k)
  moves_as_seat {u} (comes_to_hold a b d e) =
      let now = held_counts t s a e in
      rw (ne_eqb (phase t s) 5 d, now.holds, now.kind_kept)
      (if_same (kind_of t s) k
      (λ y. let w : count_word u k ≡ count_word t k + 1 = rw y at now.counted in rw (eq-eqb (kind_of t s) k y) (omega arith))
      (λ y. rw (ne_eqb (kind_of t s) k y, now.alone k (kinds_apart kd (own_kind t a.0 s b) (λ z. y (sym z))))))
  moves_as_seat (gives_up a p e) =
      rw (e, p, ne_eqb (phase (leave t s) s) 5 (idle_then t s a))
      (if_same (kind_of t s) k
      (λ y. let w : count_word (leave t s) k ≡ count_word t k - 1 = rw y at (leave_counts t s a) in
      let some : 1 ≤ count_word t k = rw y at (holder_counts t a.0 s a.1 p) in
      rw (eq-eqb (kind_of t s) k y) (omega arith))
      (λ y. rw (ne_eqb (kind_of t s) k y, leave_counts_alone t s a k (kinds_apart kd (own_kind t a.0 s (omega arith)) (λ z. y (sym z))))))

  -- and so does the count over the seats, since every other seat counts as it did
  module _ (c : Call) (same : seat_of c ≡ s) where
    others_count : (r : ℕ) → r ≢ s → holds_with (call t c).after k r ≡ holds_with t k r
    others_count r d =
        let away : r ≢ seat_of c = λ e. d (e ∙ same) in
        rw ((other_seats_kept t c).word r phase_at away (omega arith), ap (λ (x : Claim). x.kind) (others_claims_kept t c r away))

    counted_so : s < seat_count t → holders_of_kind (call t c).after k + one (holds_with t k s) ≡ holders_of_kind t k + one (holds_with (call t c).after k s)
    unfolding holders_of_kind
    counted_so l =
        rw (same_seat_count t (call t c).after (other_seats_kept t c).same_profile (other_seats_kept t c).same_length)
        (count_change (seat_count t) s (holds_with t k) (holds_with (call t c).after k) l others_count)

same_or_accepting : {t u : Tables} {s : ℕ} → Outcome t s u → (u ≡ t) ⊎ Accepting t s
same_or_accepting (unchanged e) = inl e
same_or_accepting (moves_on a d d' f) = inr a
same_or_accepting (comes_to_hold a b d e) = inr a
same_or_accepting (gives_up a p e) = inr a

pub counts_kept : (t : Tables) (c : Call) → Counts t → Counts (call t c).after
counts_kept t c right = elim (same_or_accepting (call_outcome t c)) [
  | inl e ↦ rw e right
  | inr a ↦ λ k kd.
      let word = moves_as_seat t (seat_of c) k kd (call_outcome t c) in
      let seats = counted_so t (seat_of c) k kd c refl a.1 in
      let before = right k kd in
      omega arith
]

pub run_counts_kept : (t : Tables) (schedule : List ℕ) (budget : ℕ) → Counts t → Counts (run t schedule budget).after
run_counts_kept = run_keeps Counts counts_kept

pub wrong_refused : (t : Tables) → (CountsRight t → ⊥) → (c : Call) → call t c ≡ done (refused 1) t
wrong_refused t w c = table_refused t c 1 (damaged (wrong_damaged t w))

pub counts_unless_damaged : (t : Tables) (c : Call) → (call t c).answer ≢ refused 1 → Counts (call t c).after
counts_unless_damaged t c d =
    if_true (sound t)
    (λ e. counts_kept t c (is_sound t e).counts)
    (λ e. absurd (d (ap (λ (x : Done Answer). x.answer) (table_refused t c 1 (damaged e)))))

-- ---- in fresh tables nobody holds
pub clear_words_law : (t : Tables) (frames : ℕ) → (clear t frames).answer ≡ 0 → (readers (clear t frames).after ≡ 0) × (writers (clear t frames).after ≡ 0)
clear_words_law t frames e =
    let word = fresh_top t.sheet (node_count t) (seat_count t) frames in
    rw (clear_accepted t frames e).makes_fresh (word readers_at (omega arith), word writers_at (omega arith))

fresh_counts : (sheet : Bool) (N S frames : ℕ) → Counts (fresh sheet N S frames)
unfolding holders_of_kind
fresh_counts sheet N S frames k kd =
    let t = fresh sheet N S frames in
    let nobody : (s : ℕ) → holds_with t k s ≡ false = λ s. rw (fresh_seat_word sheet N S frames s phase_at) in
    fresh_top sheet N S frames (count_at k) (count_not_title k) ∙ sym (count_gap 0 (seat_count t) (holds_with t k) (omega arith) (λ s h l. nobody s) ∙ count_none (holds_with t k))

pub clear_counts : (t : Tables) (frames : ℕ) → (clear t frames).answer ≡ 0 → Counts (clear t frames).after
clear_counts t frames e = rw (clear_accepted t frames e).makes_fresh (fresh_counts t.sheet (node_count t) (seat_count t) frames)

pub reached_counts : {N S : ℕ} {t : Tables} → Reached N S t → Counts t
reached_counts {N} {S} r = reached_has Counts counts_kept (λ sheet frames h. fresh_counts sheet N S frames) r
