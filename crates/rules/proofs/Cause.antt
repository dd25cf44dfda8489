-- Demand 3: nobody waits without cause. In every table that is reached, each `wait n first end` has its cause at node n, in the frames from first up
-- to end; and a seat with a claim that is stepped 6·N + 10 times, with no other call between, holds, or waits at a claim that clashes with its own in
-- the frames named and stands, or is refused 8 because no node is free for it. Nothing else stands here: the words are those of specs/Cause.antt and
-- specs/Shared.antt, and each proof is a citation.
use Prim.Native.Nat.{ℕ, ◌+◌, ◌*◌, ◌≤◌}
use mathlib.Core.Path.{◌≡◌}
use mathlib.Core.Logic.{◌≢◌, ◌⊎◌}
use native.Mathlib.Omega.{arith}
use lib.ListN.{replicate}
use Rattle.rules.specs.Tables.{Tables, phase}
use Rattle.rules.specs.Answers.{wait, refused}
use Rattle.rules.specs.Calls.{step}
use Rattle.rules.specs.Run.{refusal_of, run}
use Rattle.rules.specs.Reached.{Reached}
use Rattle.rules.specs.Cause.{step_times, Cause, Settled, Told, RunEnds}
use Rattle.rules.proofs.Waiting.EveryWait.{wait_caused}
use Rattle.rules.proofs.Waiting.StepsAlone.{settled_tells}
use Rattle.rules.proofs.Waiting.NobodyWaits.{settled, none_or_8, settled_by_run, run_ends}

-- ---- whenever a step answers `wait n first end`, the claim at n is the cause and these are the frames, in the tables that the step leaves
pub every_wait_has_its_cause : {N S : ℕ} {t : Tables} → Reached N S t → (s n first end : ℕ) → (step t s).answer ≡ wait n first end
    → Cause (step t s).after s n first end
every_wait_has_its_cause r = wait_caused r

-- ---- 6·N + 10 steps of one seat settle its claim
pub nobody_waits_without_cause : {N S : ℕ} {t : Tables} → Reached N S t → (s : ℕ) → phase t s ≢ 0 → Settled (step_times (6 * N + 10) t s) s
nobody_waits_without_cause {N} r s d = settled r s d (6 * N + 10) (omega arith)

-- and the last of them tells the worker so
pub last_step_tells : {N S : ℕ} {t : Tables} → Reached N S t → (s : ℕ) → phase t s ≢ 0
    → Told s (step (step_times (6 * N + 9) t s) s).answer (step (step_times (6 * N + 9) t s) s).after
last_step_tells {N} r s d = settled_tells (settled r s d (6 * N + 9) (omega arith))

-- each of these steps, and any after them, is accepted or refused 8
pub steps_accepted : {N S : ℕ} {t : Tables} → Reached N S t → (s : ℕ) → phase t s ≢ 0
    → (k : ℕ) → (refusal_of (step (step_times k t s) s).answer ≡ 0) ⊎ ((step (step_times k t s) s).answer ≡ refused 8)
steps_accepted = none_or_8

-- so it is with a run of that many entries of the seat and a budget as large
pub run_settles : {N S : ℕ} {t : Tables} → Reached N S t → (s : ℕ) → phase t s ≢ 0 → (budget : ℕ) → 6 * N + 10 ≤ budget
    → Settled (run t (replicate (6 * N + 10) s) budget).after s
run_settles {N} r s d budget h = settled_by_run r s d (6 * N + 10) (omega arith) budget h

pub solo_run_ends : {N S : ℕ} {t : Tables} → Reached N S t → (s : ℕ) → phase t s ≢ 0 → (k budget : ℕ) → k ≤ budget
    → RunEnds k (run t (replicate k s) budget).answer
solo_run_ends = run_ends

-- fewer steps are enough, and any number from there on
pub fewer_steps_settle : {N S : ℕ} {t : Tables} → Reached N S t → (s : ℕ) → phase t s ≢ 0 → (k : ℕ) → 5 * N + 8 ≤ k → Settled (step_times k t s) s
fewer_steps_settle = settled
