-- `steps::move_to` meets its promise.
use Rattle.steps.proofs.move_to.Goals as goal

pub returns : goal.returns
returns g c = cc
