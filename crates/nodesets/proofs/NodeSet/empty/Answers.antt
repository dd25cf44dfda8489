-- `nodesets::NodeSet::empty` meets its promise.
use Rattle.nodesets.specs.Set.{none}
use mathlib.Core.Path.{refl}
use Rattle.nodesets.proofs.NodeSet.empty.Goals as goal

pub returns : goal.returns
unfolding none
returns c = refl
