-- `claims::release` meets its promise.
use Rattle.shape.proofs.Tests.{now_sound}
use Rattle.claims.proofs.Ways.{release_seat_law, release_past, release_damaged}
use borrow.Author.Rules.{rules}
use Rattle.claims.proofs.release.Goals as goal

pub release_seat-requires : goal.release_seat-requires
release_seat-requires g c = record { tables_sound = search now_sound; has_seat = search rules }

pub returns-then-s-seat_count : goal.returns-then-s-seat_count
returns-then-s-seat_count g c = search release_seat_law

pub returns-then-is_sound : goal.returns-then-is_sound
returns-then-is_sound g c = search release_past

pub returns : goal.returns
returns g c = search release_damaged
