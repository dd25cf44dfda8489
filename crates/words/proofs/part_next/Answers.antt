-- `words::part_next` meets its promise.
use Rattle.words.proofs.Places.{read_next}
use Rattle.words.proofs.part_next.Goals as goal

pub returns : goal.returns
returns g c = search read_next
