-- `steps::waiting` meets its promise.
use Rattle.steps.proofs.Arms.{waiting_is}
use Rattle.steps.proofs.waiting.Goals as goal

pub returns : goal.returns
returns g c = search waiting_is
