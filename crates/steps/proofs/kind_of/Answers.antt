-- `steps::kind_of` meets its promise.
use Rattle.steps.proofs.kind_of.Goals as goal

pub returns : goal.returns
returns g c = cc
