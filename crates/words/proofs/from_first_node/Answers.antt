-- `words::from_first_node` meets its promise.
use Rattle.words.proofs.Places.{to_the_end}
use Rattle.words.proofs.from_first_node.Goals as goal

pub returns : goal.returns
returns g c = search to_the_end
