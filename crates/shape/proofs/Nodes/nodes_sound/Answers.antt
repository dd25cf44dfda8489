-- `shape::Nodes::nodes_sound` meets its promise.
use Rattle.shape.proofs.Tests.{nodes_none, nodes_more, nodes_fail, nodes_all}
use Rattle.shape.proofs.Nodes.nodes_sound.Goals as goal

pub loop-i-init : goal.loop-i-init
loop-i-init g c = nodes_none _ _ _

pub loop-i-preserved : goal.loop-i-preserved
loop-i-preserved g c = search nodes_more

pub returns-then-not-node_sound : goal.returns-then-not-node_sound
returns-then-not-node_sound g c = search nodes_fail

pub returns : goal.returns
returns g c = search nodes_all
