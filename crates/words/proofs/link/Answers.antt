-- `words::link` meets its promise.
use Rattle.words.proofs.Places.{read_head, read_next}
use Rattle.words.proofs.link.Goals as goal

pub returns-then-a-eq0 : goal.returns-then-a-eq0
returns-then-a-eq0 g c = search read_head

pub returns : goal.returns
returns g c = search read_next
