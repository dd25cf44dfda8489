-- `steps::skip` meets its promise.
use Rattle.steps.proofs.skip.Goals as goal

pub returns : goal.returns
returns g c = cc
