-- `covering::Runs::covered` meets its promise.
use Rattle.covering.proofs.Sweeping.{shown, swept_none, swept_more, swept_all}
use Rattle.covering.proofs.Runs.covered.Goals as goal

pub loop-run-init : goal.loop-run-init
loop-run-init c = search swept_none

pub loop-run-preserved : goal.loop-run-preserved
loop-run-preserved c =
    let runs = rw c.self.view_is at (shown _ _ _ c.self.invariant) in
    search swept_more

pub returns : goal.returns
returns c =
    let runs = rw c.self.view_is at (shown _ _ _ c.self.invariant) in
    search swept_all
