-- `steps::pass` meets its promise.
use Rattle.rules.specs.Steps.{pass}
use Rattle.steps.proofs.pass.Goals as goal

pub returns : goal.returns
unfolding pass
returns g c = cc
