-- `words::part_word` meets its promise.
use Rattle.words.proofs.Places.{read_part, part_in}
use Rattle.words.proofs.part_word.Goals as goal

pub bounds-part-part_place : goal.bounds-part-part_place
bounds-part-part_place g c = search part_in

pub returns : goal.returns
returns g c = search read_part
