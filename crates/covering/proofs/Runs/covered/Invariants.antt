-- `covering::Runs::covered` meets its promise.
use Rattle.covering.proofs.Sweeping.{Swept}
use Rattle.covering.proofs.Runs.covered.Given as goal

abbrev pub invariant-loop-run : goal.invariant-loop-run
invariant-loop-run l = Swept l.fn.self l.run-items l.covered l.reached l.run-index
