-- `nodesets::NodeSet::lowest` meets its promise.
use Rattle.nodesets.proofs.Set.{Clear}
use Rattle.nodesets.proofs.NodeSet.lowest.Given as goal

abbrev pub invariant-loop-i : goal.invariant-loop-i
invariant-loop-i l = Clear l.word-items l.i
