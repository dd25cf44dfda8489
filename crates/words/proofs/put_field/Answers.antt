-- `words::put_field` meets its promise.
use Rattle.words.proofs.Places.{store_field}
use Rattle.words.proofs.put_field.Goals as goal

pub returns : goal.returns
returns g c = search store_field
