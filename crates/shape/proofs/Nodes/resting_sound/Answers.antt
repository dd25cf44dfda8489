-- `shape::Nodes::resting_sound` meets its promise.
use Rattle.shape.proofs.Tests.{rests_not, rests}
use Rattle.shape.proofs.Nodes.resting_sound.Goals as goal

pub returns-then-named : goal.returns-then-named
returns-then-named g c = search rests_not

pub returns : goal.returns
returns g c = search rests
