-- `words::count_word` meets its promise.
use Rattle.words.proofs.Places.{read_count}
use Rattle.words.proofs.count_word.Goals as goal

pub returns : goal.returns
returns g c = search read_count
