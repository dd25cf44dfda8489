-- `words::seat_word` meets its promise.
use Rattle.words.proofs.Places.{read_seat, seat_there, field_there}
use Rattle.words.proofs.seat_word.Goals as goal

pub seat_word_within-requires : goal.seat_word_within-requires
seat_word_within-requires g c = search (seat_there, field_there)

pub returns : goal.returns
returns g c = search read_seat
