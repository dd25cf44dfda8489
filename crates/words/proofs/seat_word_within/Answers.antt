-- `words::seat_word_within` meets its promise.
use Rattle.words.proofs.Places.{read_seat, seat_in}
use Rattle.words.proofs.seat_word_within.Goals as goal

pub bounds-seats-seat_place : goal.bounds-seats-seat_place
bounds-seats-seat_place g c = search seat_in

pub returns : goal.returns
returns g c = search read_seat
