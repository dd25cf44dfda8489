-- `steps::withdraw` meets its promise.
use Rattle.steps.proofs.Arms.{withdraw_is}
use Rattle.steps.proofs.withdraw.Goals as goal

pub returns : goal.returns
returns g c = search withdraw_is
