-- `claims::reserve` meets its promise.
use Rattle.shape.proofs.Tests.{now_sound}
use Rattle.claims.proofs.Ways.{reserve_seat, reserve_past, reserve_damaged}
use Rattle.claims.proofs.reserve.Goals as goal

pub reserve_claim-requires : goal.reserve_claim-requires
reserve_claim-requires g c = search now_sound

pub returns-then-s-seat_count : goal.returns-then-s-seat_count
returns-then-s-seat_count g c = search reserve_seat

pub returns-then-is_sound : goal.returns-then-is_sound
returns-then-is_sound g c = search reserve_past

pub returns : goal.returns
returns g c = search reserve_damaged
