-- A withdrawn claim that is stepped alone is refused for want of a node, or has one reserved; and one that has a node reserved starts at the head,
-- where it will see the whole list.
use Prim.Native.Nat.{ℕ, ◌<◌}
use mathlib.Core.Path.{◌≡◌, refl, ◌∙◌}
use mathlib.Core.Bool.{true}
use mathlib.Core.Logic.{◌≢◌, ◌⊎◌, inl, inr}
use native.Mathlib.Omega.{arith}
use borrow.Author.Tests.{ne_eqb}
use Rattle.rules.specs.Tables.{Tables, phase_at, prev_at, cur_at, phase, own}
use Rattle.rules.specs.Comparison.{Claim, claim_of}
use Rattle.rules.specs.Reach.{lowest_free}
use Rattle.rules.specs.Fetch.{Fetched, taken_out, write_claim, take_node, fetch, reserve_for}
use Rattle.rules.specs.Steps.{refetched, entering}
use Rattle.rules.specs.Calls.{step}
use Rattle.rules.specs.Reached.{Reached}
use Rattle.rules.proofs.Rules.Effects.{Room}
use Rattle.rules.proofs.Rules.RuleEffects.{enter_stored, reserve_stored}
use Rattle.rules.proofs.Rules.Reasons.{Fetching, found, found_then, none, fetching, by_phase_6, by_phase_7}
use Rattle.rules.proofs.Laws.NodesAlone.{taken_out_profile, taken_out_seats}
use Rattle.rules.proofs.Keeping.Aside.{seat_room}
use Rattle.rules.proofs.Keeping.CallKeeps.{good}
use Rattle.rules.proofs.Waiting.Alone.{AtRest, rests_refused, step_reached, accepted}
use Rattle.rules.proofs.Waiting.WalkAlone.{WalkAt}
use Rattle.rules.proofs.Laws.Shape.{in_7}

-- a seat that has just taken a node has it reserved
taken_reserved : (t : Tables) (s a : ℕ) (c : Claim) → Room t s → phase (take_node t s a c) s ≡ 7
unfolding take_node write_claim reserve_for
taken_reserved t s a c r = (reserve_stored (write_claim t a c) s r a).at_s phase_at (omega arith)

fetched_reserved : {t : Tables} {s : ℕ} {c : Claim} {f : Fetched} → Room t s → f.node ≢ 0 → Fetching t s c f → phase f.after s ≡ 7
fetched_reserved {t} {s} {c} r d (found a e z) = taken_reserved t s a c r
fetched_reserved {t} {s} {c} r d (found_then a e e' z) = taken_reserved (taken_out t) s a c (rw (taken_out_profile t, taken_out_seats t) r)
fetched_reserved r d (none e e') = absurd (d refl)

refetched_found : (t : Tables) (s : ℕ) (f : Fetched) → f.node ≢ 0 → (refetched t s f).after ≡ f.after
unfolding refetched
refetched_found t s f d = rw (ne_eqb f.node 0 d)

module _ {N S : ℕ} (s : ℕ) (s_in : s < S) {t : Tables} (g : Reached N S t) (gone : phase t s ≡ 6) where
  abbrev c : Claim
  c = claim_of t (own t s)

  fetched_or_none : {f : Fetched} → Fetching t s c f → ((lowest_free t s ≡ 0) × (lowest_free (taken_out t) s ≡ 0)) ⊎ (f.node ≢ 0)
  fetched_or_none (found a e z) = inr z
  fetched_or_none (found_then a e e' z) = inr z
  fetched_or_none (none e e') = inl (e, e')

  pub after_6 : AtRest s t ⊎ (phase (step t s).after s ≡ 7)
  after_6 =
      let w = fetching t s c in
      elim (fetched_or_none w) [
        | inl z ↦ inl (rests_refused gone z.0 z.1)
        | inr d ↦ inr (
            rw (accepted s s_in g (omega arith), by_phase_6 t s gone, refetched_found t s (fetch t s c) d)
            (fetched_reserved (seat_room (good g).aside s s_in) d w))
      ]

-- a seat that enters stands at the head, with all of the list ahead
module _ {N S : ℕ} (s : ℕ) (s_in : s < S) {t : Tables} (g : Reached N S t) (has_node : phase t s ≡ 7) where
  entered_walks : Reached N S (entering t s) → WalkAt N S s true (entering t s)
  unfolding entering
  entered_walks h =
      let w = enter_stored t s (seat_room (good g).aside s s_in) in
      let prev_is = w.at_s prev_at (omega arith) ∙ (((good g).inv.seats s).resting (in_7 has_node)).0 in
      let cur_is = w.at_s cur_at (omega arith) in
      record {
        reached = h;
        in_1 = w.at_s phase_at (omega arith);
        joined = record { unmarked = rw (prev_is, (good h).inv.nodes.head_unmarked) (omega arith); to_cur = rw (prev_is, cur_is) };
        seen_all = λ q ko x on m. inl (rw cur_is on);
      }

  pub after_7 : WalkAt N S s true (step t s).after
  after_7 =
      let q = accepted s s_in g (omega arith) in
      rw (q, by_phase_7 t s has_node) (entered_walks (rw (q, by_phase_7 t s has_node) at (step_reached g s)))
