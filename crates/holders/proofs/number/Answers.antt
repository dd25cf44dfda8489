-- `holders::number` meets its promise.
use Rattle.holders.proofs.Rows.{all_seats, all_counted}
use Rattle.holders.proofs.number.Goals as goal

pub count-requires : goal.count-requires
count-requires g c = all_seats c.args.tables.now _ _ _ c.seats.ensures.words c.seats.ensures.profile c.seat_count.ensures.all

pub returns : goal.returns
returns g c = all_counted c.args.tables.now _ _ _ _ c.seats.ensures.words c.seats.ensures.profile c.seat_count.ensures.all c.count.ensures
