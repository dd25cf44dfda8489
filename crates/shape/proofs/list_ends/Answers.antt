-- `shape::list_ends` meets its promise.
use Rattle.std.proofs.Common.{arith}
use Rattle.shape.proofs.Tests.{ends_all, ends_again, ends_left, ends_out, within_some, within_in, few_fit}
use Rattle.shape.proofs.list_ends.Goals as goal

pub overflow_cast-n : goal.overflow_cast-n
overflow_cast-n g c = omega (arith, few_fit _ _ _ c.node_count-n.ensures c.requires)

pub loop-init : goal.loop-init
loop-init g c = search ends_all

pub returns-then-a-n : goal.returns-then-a-n
returns-then-a-n g c = search ends_out

pub next_within-a-requires : goal.next_within-a-requires
next_within-a-requires g c = search (within_some, within_in)

pub loop-preserved : goal.loop-preserved
loop-preserved g c = search ends_again

pub returns : goal.returns
returns g c = search ends_left
