-- `steps::enter` meets its promise.
use Rattle.steps.proofs.Arms.{entering_is}
use Rattle.steps.proofs.enter.Goals as goal

pub returns : goal.returns
returns g c = search entering_is
