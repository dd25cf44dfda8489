-- `claims::release_seat` meets its promise.
use Rattle.steps.proofs.OwnWords.{part_within}
use Rattle.claims.proofs.Ways.{release_holder, release_other, one_to_take_off}
use Rattle.claims.proofs.release_seat.Goals as goal

pub slice_bounds-leave-end : goal.slice_bounds-leave-end
slice_bounds-leave-end g c = search part_within

pub leave-requires : goal.leave-requires
leave-requires g c = search one_to_take_off

pub returns-in-5 : goal.returns-in-5
returns-in-5 g c = search release_holder

pub returns-in-0-to-4 : goal.returns-in-0-to-4
returns-in-0-to-4 g c = search release_other
