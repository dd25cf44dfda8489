-- `words::put_node` meets its promise.
use Rattle.rules.specs.Tables.{put_node}
use Rattle.words.proofs.Places.{store_node}
use Rattle.words.proofs.put_node.Goals as goal

pub returns-then-a-eq0 : goal.returns-then-a-eq0
unfolding put_node
returns-then-a-eq0 g c = rw c.if-a-eq0.true

pub returns : goal.returns
returns g c = search store_node
