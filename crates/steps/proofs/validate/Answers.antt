-- `steps::validate` meets its promise.
use Rattle.steps.proofs.Arms.{validate_reader, validate_writer}
use Rattle.steps.proofs.validate.Goals as goal

pub returns-then-node_word-eq1 : goal.returns-then-node_word-eq1
returns-then-node_word-eq1 g c = search validate_reader

pub returns : goal.returns
returns g c = search validate_writer
