-- `comparison::shared_by_nodes` meets its promise.
use Rattle.comparison.proofs.Shares.{shared_is}
use Rattle.comparison.proofs.shared_by_nodes.Goals as goal

pub returns : goal.returns
returns g c = search shared_is
