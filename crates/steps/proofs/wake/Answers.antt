-- `steps::wake` meets its promise.
use Rattle.steps.proofs.Arms.{wake_up, wake_not}
use Rattle.steps.proofs.wake.Goals as goal

pub returns-then-node_word-eq1 : goal.returns-then-node_word-eq1
returns-then-node_word-eq1 g c = search wake_up

pub returns-else-node_word-eq1 : goal.returns-else-node_word-eq1
returns-else-node_word-eq1 g c = search wake_not
