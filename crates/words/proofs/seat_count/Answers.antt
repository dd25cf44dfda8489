-- `words::seat_count` meets its promise.
use Rattle.words.proofs.Places.{seat_count_is}
use Rattle.words.proofs.seat_count.Goals as goal

pub returns : goal.returns
returns g c = search seat_count_is
