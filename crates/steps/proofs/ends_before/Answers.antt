-- `steps::ends_before` meets its promise.
use Rattle.steps.proofs.Arms.{before_is}
use Rattle.steps.proofs.ends_before.Goals as goal

pub returns : goal.returns
returns g c = search before_is
