-- A claim stepped alone settles, by steps and by a run.
use Prim.Native.Nat.{ℕ, ◌+◌, ◌*◌, ◌≤◌, ◌<◌}
use mathlib.Core.Path.{◌≡◌}
use mathlib.Core.Logic.{◌≢◌, ◌⊎◌, inl, inr}
use lib.ListN.{replicate}
use Rattle.rules.specs.Tables.{Tables, phase}
use Rattle.rules.specs.Answers.{refused}
use Rattle.rules.specs.Calls.{step}
use Rattle.rules.specs.Run.{refusal_of, run}
use Rattle.rules.specs.Reached.{Reached}
use Rattle.rules.specs.Cause.{step_times, Settled, RunEnds}
use Rattle.rules.proofs.Keeping.Hops.{busy_in}
use Rattle.rules.proofs.Keeping.CallKeeps.{good}
use Rattle.rules.proofs.Soundness.Refusals.{no_refusal, refusal_8}
use Rattle.rules.proofs.Waiting.Within.{more_time}
use Rattle.rules.proofs.Waiting.RestsAlone.{comes_to_rest}
use Rattle.rules.proofs.Waiting.StepsAlone.{times_reached, settled_after, times_busy, step_none_or_8, run_alone, run_alone_ends}

module _ {N S : ℕ} {t : Tables} (r : Reached N S t) (s : ℕ) (busy : phase t s ≢ 0) where
  seat_in : s < S
  seat_in = busy_in (good r) s busy

  pub settled : (k : ℕ) → 5 * N + 8 ≤ k → Settled (step_times k t s) s
  settled k h = settled_after s seat_in k t r (more_time {k = 5 * N + 8} h (comes_to_rest s seat_in r busy))

  pub none_or_8 : (k : ℕ) → (refusal_of (step (step_times k t s) s).answer ≡ 0) ⊎ ((step (step_times k t s) s).answer ≡ refused 8)
  none_or_8 k = elim (step_none_or_8 s seat_in (times_reached k s r) (times_busy k t s busy)) [ no_refusal e ↦ inl e | refusal_8 e ↦ inr e ]

  pub settled_by_run : (k : ℕ) → 5 * N + 8 ≤ k → (budget : ℕ) → k ≤ budget → Settled (run t (replicate k s) budget).after s
  settled_by_run k h budget l = rw (run_alone r k budget s l) (settled k h)

  pub run_ends : (k budget : ℕ) → k ≤ budget → RunEnds k (run t (replicate k s) budget).answer
  run_ends k budget l = run_alone_ends s seat_in k budget r busy l
