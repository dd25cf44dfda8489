-- `words::field` meets its promise.
use Rattle.words.proofs.Places.{read_field}
use Rattle.words.proofs.field.Goals as goal

pub returns : goal.returns
returns g c = search read_field
