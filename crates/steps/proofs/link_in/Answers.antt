-- `steps::link_in` meets its promise.
use Rattle.rules.specs.Steps.{link_in}
use Rattle.steps.proofs.link_in.Goals as goal

pub returns : goal.returns
unfolding link_in
returns g c = cc
