-- `shape::Nodes::of` meets its promise.
use Rattle.std.proofs.Common.{arith}
use Rattle.shape.proofs.Tests.{long_enough, few_fit, counts_part}
use Rattle.shape.proofs.Nodes.of.Goals as goal

pub from_first_node-requires : goal.from_first_node-requires
from_first_node-requires g c = search long_enough

pub overflow_cast-result : goal.overflow_cast-result
overflow_cast-result g c = omega (arith, few_fit _ _ _ c.node_count.ensures c.requires)

pub invariant_of-result : goal.invariant_of-result
invariant_of-result g c = search counts_part
