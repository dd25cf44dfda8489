-- `steps::look_again` meets its promise.
use Rattle.steps.proofs.Arms.{again_from_head, again_from_prev}
use Rattle.steps.proofs.look_again.Goals as goal

pub returns-then-node_word-eq1 : goal.returns-then-node_word-eq1
returns-then-node_word-eq1 g c = search again_from_head

pub returns : goal.returns
returns g c = search again_from_prev
