-- `words::put_seat` meets its promise.
use Rattle.words.proofs.Places.{store_seat, place_there}
use Rattle.words.proofs.put_seat.Goals as goal

pub bounds-seats-seat_place : goal.bounds-seats-seat_place
bounds-seats-seat_place g c = search place_there

pub returns-then-s-seat_count : goal.returns-then-s-seat_count
returns-then-s-seat_count g c = search store_seat

pub returns : goal.returns
returns g c = search store_seat
