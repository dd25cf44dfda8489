-- `nodesets::NodeSet::outside` meets its promise.
use Rattle.nodesets.proofs.Set.{OutsideTo}
use lib.ListN.{length}
use mathlib.Core.Path.{◌≡◌}
use Rattle.nodesets.proofs.NodeSet.outside.Given as goal

abbrev pub invariant-loop-i : goal.invariant-loop-i
invariant-loop-i l = (length l.words ≡ 4) × OutsideTo l.self-inside.words l.n l.words l.i
