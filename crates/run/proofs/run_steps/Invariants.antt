-- `run::run_steps` meets its promise.
use Rattle.rules.specs.Run.{run_steps}
use Rattle.rules.specs.Shape.{sound}
use Rattle.rules.specs.Tables.{tables}
use lib.ListN.{length, drop}
use mathlib.Core.Bool.{true}
use Prim.Native.Nat.{◌-◌, ◌≤◌}
use mathlib.Core.Path.{◌≡◌}
use Rattle.run.proofs.Counting.{plus}
use Rattle.run.proofs.run_steps.Given as goal

abbrev pub invariant-loop-steps : goal.invariant-loop-steps
invariant-loop-steps g l =
    (length l.nodes ≡ length l.initial.nodes) × (length l.seats ≡ length l.initial.seats) × (l.steps ≤ l.budget) × (l.steps ≤ length l.schedule) × (sound (tables g.P.Profile.SHEET l.nodes l.seats) ≡ true)
    × (plus l.steps (run_steps (l.budget - l.steps) (tables g.P.Profile.SHEET l.nodes l.seats) (drop l.steps l.schedule)) ≡ run_steps l.budget (tables g.P.Profile.SHEET l.initial.nodes l.initial.seats) l.schedule)

abbrev pub decreases-loop-steps : goal.decreases-loop-steps
decreases-loop-steps g l = l.budget - l.steps
