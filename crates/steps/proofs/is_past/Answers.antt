-- `steps::is_past` meets its promise.
use Rattle.steps.proofs.Arms.{past_is}
use Rattle.steps.proofs.is_past.Goals as goal

pub returns : goal.returns
returns g c = search past_is
