-- `words::put_count` meets its promise.
use Rattle.words.proofs.Places.{store_count}
use Rattle.words.proofs.put_count.Goals as goal

pub returns : goal.returns
returns g c = search store_count
