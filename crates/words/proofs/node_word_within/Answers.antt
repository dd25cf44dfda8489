-- `words::node_word_within` meets its promise.
use Rattle.words.proofs.Places.{read_node, node_in}
use Rattle.words.proofs.node_word_within.Goals as goal

pub bounds-nodes-node_place : goal.bounds-nodes-node_place
bounds-nodes-node_place g c = search node_in

pub returns : goal.returns
returns g c = search read_node
