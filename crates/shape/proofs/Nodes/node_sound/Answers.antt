-- `shape::Nodes::node_sound` meets its promise.
use Rattle.shape.proofs.Tests.{node_zero, node_lost, node_claim}
use Rattle.shape.proofs.Nodes.node_sound.Goals as goal

pub returns-then-kind-eq0 : goal.returns-then-kind-eq0
returns-then-kind-eq0 g c = search node_zero

pub returns-then-not-names : goal.returns-then-not-names
returns-then-not-names g c = search node_lost

pub returns : goal.returns
returns g c = search node_claim
