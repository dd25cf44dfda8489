-- `steps::start_validating` meets its promise.
use Rattle.steps.proofs.Arms.{start_reader, start_writer}
use Rattle.steps.proofs.start_validating.Goals as goal

pub returns-then-node_word-eq1 : goal.returns-then-node_word-eq1
returns-then-node_word-eq1 g c = search start_reader

pub returns : goal.returns
returns g c = search start_writer
