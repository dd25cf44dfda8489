-- `words::put_link` meets its promise.
use Rattle.words.proofs.Places.{store_head, store_next}
use Rattle.words.proofs.put_link.Goals as goal

pub returns-then-a-eq0 : goal.returns-then-a-eq0
returns-then-a-eq0 g c = search store_head

pub returns : goal.returns
returns g c = search store_next
