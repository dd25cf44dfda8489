-- `steps::wait_to_enter` meets its promise.
use Rattle.steps.proofs.Arms.{to_enter_is}
use Rattle.steps.proofs.wait_to_enter.Goals as goal

pub returns : goal.returns
returns g c = search to_enter_is
