-- `words::node_word` meets its promise.
use Rattle.rules.specs.Tables.{node_word}
use Rattle.words.proofs.Places.{read_node}
use Rattle.words.proofs.node_word.Goals as goal

pub returns-then-a-eq0 : goal.returns-then-a-eq0
unfolding node_word
returns-then-a-eq0 g c = rw c.if-a-eq0.true

pub returns : goal.returns
returns g c = search read_node
