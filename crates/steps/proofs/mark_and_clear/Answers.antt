-- `steps::mark_and_clear` meets its promise.
use Rattle.steps.proofs.Arms.{clear_is}
use Rattle.steps.proofs.mark_and_clear.Goals as goal

pub returns : goal.returns
returns g c = search clear_is
