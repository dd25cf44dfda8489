-- A walk alone whose prev and cur may no longer be joined, since others have changed the list: within the nodes ahead of it and one step
-- more the claim waits, or the walk is joined again.
use Prim.Native.Nat.{ℕ, suc, ◌≤◌, ◌<◌}
use mathlib.Core.Path.{◌≡◌, refl, ◌∙◌}
use mathlib.Core.Bool.{false}
use mathlib.Core.Logic.{inl}
use native.Mathlib.Omega.{arith}
use Rattle.rules.specs.Tables.{Tables, phase_at, prev_at, cur_at, link, head, phase, prev, cur}
use Rattle.rules.specs.Steps.{joined, pass}
use Rattle.rules.specs.Reached.{Reached}
use Rattle.rules.proofs.Ground.Logic.{clash}
use Rattle.rules.proofs.Ground.Deciding.{if_true}
use Rattle.rules.proofs.Ground.Following.{Ends, ends_tail}
use Rattle.rules.proofs.Rules.RuleEffects.{pass_stored, place_stored, cur_stored}
use Rattle.rules.proofs.Rules.Reasons.{Joined, is_joined, links_in, restarts, rereads, Walking, inserts, unlinks, passes, waits}
use Rattle.rules.proofs.Keeping.Aside.{seat_room}
use Rattle.rules.proofs.Keeping.CallKeeps.{good}
use Rattle.rules.proofs.Waiting.Within.{Within, now, later, along_chain}
use Rattle.rules.proofs.Waiting.Alone.{alone, AtRest, rests_in, after_1, unlinked, is_not_joined}
use Rattle.rules.proofs.Waiting.WalkAlone.{WalkAt}

pub data LooseEnds (N S s : ℕ) (t : Tables) : Type 0 where
  at_rest : AtRest s t → LooseEnds N S s t
  joins : WalkAt N S s false t → LooseEnds N S s t

record LooseAt (N S s : ℕ) (t : Tables) : Type 0 where
  reached : Reached N S t
  in_1 : phase t s ≡ 1

module _ {N S : ℕ} (s : ℕ) (s_in : s < S) where
  -- nothing is known of what was passed
  joins_at : {t : Tables} → Reached N S t → phase t s ≡ 1 → Joined t s → LooseEnds N S s t
  joins_at g p j = joins (record { reached = g; in_1 = p; joined = j; seen_all = λ q. absurd (clash false q refl) })

  one_step : (m k : ℕ) (t : Tables) → LooseAt N S s t → joined t s ≡ false → Ends (link t) (cur t s) k
      → ((u : Tables) → LooseAt N S s u → (j : ℕ) → Ends (link u) (cur u s) j → j < k → Within (alone s) (LooseEnds N S s) m u)
      → {u : Tables} → Walking t s u → Reached N S u → Within (alone s) (LooseEnds N S s) m u
  unfolding pass
  one_step m k t r x e on (inserts f (links_in j st)) g = absurd (is_not_joined t s x j)
  one_step m k t r x e on (inserts f (restarts y z)) g =
      let w = place_stored t s (seat_room (good r.reached).aside s s_in) 0 (head t) in
      let prev_is = w.at_s prev_at (omega arith) in
      now (joins_at g (w.at_s phase_at (omega arith) ∙ r.in_1)
      (record { unmarked = rw (prev_is, (good r.reached).inv.nodes.head_unmarked) (omega arith); to_cur = rw (prev_is, w.at_s cur_at (omega arith)) }))
  one_step m k t r x e on (inserts f (rereads y z)) g =
      let w = cur_stored t s (seat_room (good r.reached).aside s s_in) (link t (prev t s)) in
      let prev_is = w.at_s prev_at (omega arith) in
      now (joins_at g (w.at_s phase_at (omega arith) ∙ r.in_1)
      (record { unmarked = rw prev_is z; to_cur = rw (prev_is, w.at_s cur_at (omega arith)) }))
  one_step m k t r x e on (waits c mk f f') g = now (at_rest (rests_in r.reached s s_in 2 (inl refl) mk))
  one_step m k t r x e on (unlinks c mk w) g =
      let f = unlinked s s_in r.reached c w in
      let z = ends_tail e c in
      let y = f.ends z.1 in
      on _ (record { reached = g; in_1 = f.same_phase ∙ r.in_1 }) y.0 (rw f.on_to_next y.1) (omega arith)
  one_step m k t r x e on (passes c mk f) g =
      let w = pass_stored t s (seat_room (good r.reached).aside s s_in) in
      let prev_is = w.at_s prev_at (omega arith) in
      now (joins_at g (w.at_s phase_at (omega arith) ∙ r.in_1)
      (record { unmarked = rw prev_is mk; to_cur = rw (prev_is, w.at_s cur_at (omega arith)) }))

  pub loose_ends : (m : ℕ) {t : Tables} → Reached N S t → phase t s ≡ 1 → (k : ℕ) → Ends (link t) (cur t s) k → k ≤ m
      → Within (alone s) (LooseEnds N S s) (suc m) t
  loose_ends m {t} g p =
      along_chain {P = LooseEnds N S s} {R = LooseAt N S s} (λ t. cur t s)
      (λ m k t r e on. if_true (joined t s)
      (λ j. now (joins_at r.reached r.in_1 (is_joined t s j)))
      (λ j. later {k = m} (after_1 s s_in r.reached (Within (alone s) (LooseEnds N S s) m) r.in_1 (λ u w gu. one_step m k t r j e on w gu))))
      m t (record { reached = g; in_1 = p })
