-- `steps::unlink` meets its promise.
use Rattle.steps.proofs.Arms.{unlink_joined, unlink_not}
use Rattle.steps.proofs.unlink.Goals as goal

pub returns-then-is_joined : goal.returns-then-is_joined
returns-then-is_joined g c = search unlink_joined

pub returns : goal.returns
returns g c = search unlink_not
