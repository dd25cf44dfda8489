-- Whenever a step answers `wait n first end`, the claim at n is the cause, in these frames.
use Prim.Native.Nat.{ℕ, ◌<◌}
use mathlib.Core.Path.{◌≡◌, sym, ◌∙◌}
use mathlib.Core.Logic.{inl, inr, ◌≢◌}
use native.Mathlib.Omega.{arith}
use Rattle.rules.specs.Tables.{Tables, phase, own}
use Rattle.rules.specs.Answers.{wait}
use Rattle.rules.specs.Calls.{step}
use Rattle.rules.specs.Cause.{Cause}
use Rattle.rules.specs.Reached.{Reached}
use Rattle.rules.proofs.Keeping.Hops.{busy_in}
use Rattle.rules.proofs.Keeping.CallKeeps.{good}
use Rattle.rules.proofs.Waiting.Alone.{step_reached}
use Rattle.rules.proofs.Waiting.WaitTells as tells
use Rattle.rules.proofs.Waiting.Causes.{waits_with_cause}
use Rattle.rules.proofs.Ground.Deciding.{if_same}
use Rattle.rules.proofs.Holding.Standing.{different_nodes}

module _ {N S : ℕ} {t : Tables} (g : Reached N S t) (s n first end : ℕ) (answers : (step t s).answer ≡ wait n first end) where
  after : Reached N S (step t s).after
  after = step_reached g s

  seat_in : s < S
  seat_in = busy_in (good after) s (λ e. elim (tells.waits n first end t s answers) [ inl p ↦ omega arith | inr p ↦ omega arith ])

  pub wait_caused : Cause (step t s).after s n first end
  wait_caused =
      rw (← tells.at_node n first end t s answers, ← tells.from_first n first end t s answers, ← tells.up_to_end n first end t s answers)
      (waits_with_cause s seat_in after (tells.waits n first end t s answers) (tells.at_unmarked n first end t s answers))

  -- so nobody waits at a node that is reserved: it is no linked claim's
  pub wait_not_reserved : (r : ℕ) → phase (step t s).after r ≡ 7 → own (step t s).after r ≢ n
  wait_not_reserved r p q =
      let c = wait_caused in
      if_same c.seat r
      (λ e. let l = c.linked_in in let p' : phase (step t s).after c.seat ≡ 7 = rw e p in omega arith)
      (λ d. let l = c.linked_in in different_nodes (good after) c.seat r d (omega arith) (omega arith) (c.theirs ∙ sym q))
