-- `claims::enter` meets its promise.
use Rattle.claims.proofs.Ways.{enter_seat_law, enter_past, enter_damaged}
use Rattle.claims.proofs.enter.Goals as goal

pub returns-then-s-seat_count : goal.returns-then-s-seat_count
returns-then-s-seat_count g c = search enter_seat_law

pub returns-then-is_sound : goal.returns-then-is_sound
returns-then-is_sound g c = search enter_past

pub returns : goal.returns
returns g c = search enter_damaged
