-- `fetch::take_node` meets its promise.
use Rattle.fetch.proofs.Ways.{taken}
use Rattle.fetch.proofs.take_node.Goals as goal

pub returns : goal.returns
returns g c = search taken
