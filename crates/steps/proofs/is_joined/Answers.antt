-- `steps::is_joined` meets its promise.
use Rattle.steps.proofs.Arms.{joined_is}
use Rattle.steps.proofs.is_joined.Goals as goal

pub returns : goal.returns
returns g c = search joined_is
