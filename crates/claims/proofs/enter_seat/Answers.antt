-- `claims::enter_seat` meets its promise.
use Rattle.steps.proofs.OwnWords.{part_within}
use Rattle.claims.proofs.Ways.{enter_reserved, enter_other}
use Rattle.claims.proofs.enter_seat.Goals as goal

pub slice_bounds-enter-end : goal.slice_bounds-enter-end
slice_bounds-enter-end g c = search part_within

pub returns-in-7 : goal.returns-in-7
returns-in-7 g c = search enter_reserved

pub returns-in-0-to-6 : goal.returns-in-0-to-6
returns-in-0-to-6 g c = search enter_other
