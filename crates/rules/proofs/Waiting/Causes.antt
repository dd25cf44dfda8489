-- What it means to be at rest: a step changes nothing, and whoever waits has a cause.
use Prim.Native.Nat.{ℕ, ◌<◌}
use mathlib.Core.Path.{◌≡◌, sym, ap, ◌∙◌}
use mathlib.Core.Logic.{◌≢◌, ◌⊎◌, inl, inr}
use native.Mathlib.Omega.{arith}
use borrow.Author.Tests.{ne_eqb}
use Rattle.rules.specs.Tables.{Tables, start, kind, mark, link, phase, own, cur}
use Rattle.rules.specs.Comparison.{Claim, claim_of}
use Rattle.rules.specs.Reach.{lowest_free, here}
use Rattle.rules.specs.Fetch.{taken_out, fetch, fetch_again}
use Rattle.rules.specs.Answers.{Answer, held, refused, Done, done, shared_at_cur, answered}
use Rattle.rules.specs.Answers.{waiting as waiting_at}
use Rattle.rules.specs.Steps.{waiting_to_enter, reader_waiting, refetched}
use Rattle.rules.specs.Calls.{step}
use Rattle.rules.specs.Cause.{Cause, Settled, holds, waits, no_node}
use Rattle.rules.proofs.Laws.Words.{seat_count_law}
use Rattle.rules.proofs.Laws.Answers.{answers_held, answers_wait}
use Rattle.rules.proofs.Laws.SharedRuns.{shared_whole, shared_some, clash_shares}
use Rattle.rules.proofs.Invariant.View.{seats_of, waiting, waiting_reader}
use Rattle.rules.proofs.Invariant.Phases.{linked_busy, linked_in}
use Rattle.rules.proofs.Invariant.Clauses.{Seen, from_cur}
use Rattle.rules.specs.Reached.{Reached}
use Rattle.rules.proofs.Invariant.Known.{seen_proper, own_proper, hidden}
use Rattle.rules.proofs.Rules.Reasons.{by_phase_2, by_phase_4, by_phase_5, by_phase_6}
use Rattle.rules.proofs.Keeping.Hops.{is_listed, busy_in}
use Rattle.rules.proofs.Keeping.CallKeeps.{good}
use Rattle.rules.proofs.Waiting.Alone.{AtRest, rests_holding, rests_waiting, rests_refused, accepted}

-- ---- a step changes nothing
stays_waiting : (t : Tables) (s : ℕ) → mark t (cur t s) ≢ 1 → waiting_to_enter t s ≡ t
unfolding waiting_to_enter
stays_waiting t s m = rw (ne_eqb (mark t (cur t s)) 1 m)

stays_reader_waiting : (t : Tables) (s : ℕ) → mark t (cur t s) ≢ 1 → reader_waiting t s ≡ t
unfolding reader_waiting
stays_reader_waiting t s m = rw (ne_eqb (mark t (cur t s)) 1 m)

stays_withdrawn : (t : Tables) (s : ℕ) (c : Claim) → lowest_free t s ≡ 0 → lowest_free (taken_out t) s ≡ 0 → refetched t s (fetch t s c) ≡ done (refused 8) t
unfolding refetched fetch fetch_again
stays_withdrawn t s c e e' = rw (e, e')

module _ {N S : ℕ} (s : ℕ) (s_in : s < S) {t : Tables} (g : Reached N S t) where
  held_on : phase t s ≡ 5 → step t s ≡ done held t
  held_on p = accepted s s_in g (omega arith) ∙ by_phase_5 t s p ∙ ap (λ a. done a t) (answers_held t s p)

  waits_on : (phase t s ≡ 2) ⊎ (phase t s ≡ 4) → mark t (cur t s) ≢ 1 → step t s ≡ done (waiting_at t s) t
  waits_on (inl p) m =
      accepted s s_in g (omega arith) ∙ by_phase_2 t s p ∙ ap (λ u. answered u s) (stays_waiting t s m)
      ∙ ap (λ a. done a t) (answers_wait t s (inl p))
  waits_on (inr p) m =
      accepted s s_in g (omega arith) ∙ by_phase_4 t s p ∙ ap (λ u. answered u s) (stays_reader_waiting t s m)
      ∙ ap (λ a. done a t) (answers_wait t s (inr p))

  refused_8 : phase t s ≡ 6 → lowest_free t s ≡ 0 → lowest_free (taken_out t) s ≡ 0 → step t s ≡ done (refused 8) t
  refused_8 p e e' = accepted s s_in g (omega arith) ∙ by_phase_6 t s p ∙ stays_withdrawn t s (claim_of t (own t s)) e e'

  pub rest_stays : AtRest s t → (step t s).after ≡ t
  rest_stays (rests_holding p) = ap (λ (d : Done Answer). d.after) (held_on p)
  rest_stays (rests_waiting p m) = ap (λ (d : Done Answer). d.after) (waits_on p m)
  rest_stays (rests_refused p e e') = ap (λ (d : Done Answer). d.after) (refused_8 p e e')

  -- ---- and whoever waits has a cause: the claim at cur stands, so it has an owner
  abbrev HasCause : Type 0
  HasCause = Cause t s (cur t s) (shared_at_cur t s).first (shared_at_cur t s).end

  module _ (m : mark t (cur t s) ≢ 1) (pos : 0 < cur t s) where
    seen : Seen (link t) (seats_of t) (cur t s)
    seen = from_cur s (here pos)

    cause : (shared_at_cur t s).first < (shared_at_cur t s).end → (kind t (cur t s) ≡ 2) ⊎ (kind t (own t s) ≡ 2) → own t s ≢ cur t s → HasCause
    cause some w d =
        let on = (good g).inv.seen_listed seen m in
        let o = (good g).inv.owner on m in
        record {
          seat = o.seat;
          is_seat = rw (seat_count_law t S (good g).aside.seats_long) (busy_in (good g) o.seat (linked_busy o.linked));
          other = λ e. d (ap (own t) (sym e) ∙ o.owns);
          theirs = o.owns;
          linked_in = linked_in o.linked;
          stands = (is_listed (good g) on, ne_eqb (mark t (cur t s)) 1 m);
          some_frame = some;
          whole = shared_whole (claim_of t (cur t s)) (claim_of t (own t s));
          one_writes = w;
        }

  cause_2 : phase t s ≡ 2 → mark t (cur t s) ≢ 1 → HasCause
  cause_2 p m =
      let pos = ((good g).inv.seats s).at_cur (inl p) in
      let k = ((good g).inv.stuck s).at_2 p in
      let w = clash_shares (seen_proper (good g).inv (seen m pos)) (own_proper (good g).inv s (omega arith)) k.0 k.1 in
      cause m pos w.some_frame w.one_writes (λ e. hidden (good g).inv {i = s} (waiting p) (rw e (seen m pos)))

  cause_4 : phase t s ≡ 4 → mark t (cur t s) ≢ 1 → HasCause
  cause_4 p m =
      let pos = ((good g).inv.seats s).at_cur (inr p) in
      let k = ((good g).inv.stuck s).at_4 p in
      let theirs = seen_proper (good g).inv (seen m pos) in
      let h = (good g).inv.reader_cur s (waiting_reader p) k.0 pos in
      let some = theirs.some in
      cause m pos (shared_some (claim_of t (cur t s)) (claim_of t (own t s)) (start t (cur t s)) (omega arith, some) (h, k.2))
      (inl (elim theirs.reads_or_writes [ inl z ↦ absurd (k.1 z) | inr z ↦ z ]))
      (λ e. k.1 (ap (kind t) (sym e) ∙ k.0))

  pub waits_with_cause : (phase t s ≡ 2) ⊎ (phase t s ≡ 4) → mark t (cur t s) ≢ 1 → HasCause
  waits_with_cause (inl p) m = cause_2 p m
  waits_with_cause (inr p) m = cause_4 p m

  pub rest_settled : AtRest s t → Settled t s
  rest_settled (rests_holding p) = holds p (held_on p)
  rest_settled (rests_waiting p m) = waits (cur t s) (shared_at_cur t s).first (shared_at_cur t s).end (waits_on p m) (waits_with_cause p m)
  rest_settled (rests_refused p e e') = no_node (refused_8 p e e') p (record { at_first = e; marked_out = e' })
