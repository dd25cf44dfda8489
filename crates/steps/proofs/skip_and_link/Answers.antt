-- `steps::skip_and_link` meets its promise.
use Rattle.steps.proofs.skip_and_link.Goals as goal

pub returns : goal.returns
returns g c = cc
