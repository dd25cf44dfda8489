-- `shape::Nodes::names` meets its promise.
use Rattle.shape.proofs.Tests.{names_zero, names_past, names_kind}
use Rattle.shape.proofs.Nodes.names.Goals as goal

pub returns-then-a-eq0 : goal.returns-then-a-eq0
returns-then-a-eq0 g c = search names_zero

pub returns-then-node_count-a : goal.returns-then-node_count-a
returns-then-node_count-a g c = search names_past

pub returns : goal.returns
returns g c = search names_kind
