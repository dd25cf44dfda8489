-- `words::next_within` meets its promise.
use Rattle.words.proofs.Places.{read_next}
use Rattle.words.proofs.next_within.Goals as goal

pub returns : goal.returns
returns g c = search read_next
