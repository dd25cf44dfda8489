-- `phases::step_known` meets its promise.
use Rattle.phases.proofs.Ways.{step_seat, step_past}
use Rattle.phases.proofs.step_known.Goals as goal

pub returns-then-s-seat_count : goal.returns-then-s-seat_count
returns-then-s-seat_count g c = search step_seat

pub returns : goal.returns
returns g c = search step_past
