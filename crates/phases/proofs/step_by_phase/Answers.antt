-- `phases::step_by_phase` meets its promise.
use Rattle.steps.proofs.OwnWords.{part_within}
use Rattle.phases.proofs.Ways.{step_idle, step_one, step_two, step_three, step_four, step_five, step_six, step_seven, step_none, room_to_count}
use Rattle.phases.proofs.step_by_phase.Goals as goal

pub slice_bounds-walk-end : goal.slice_bounds-walk-end
slice_bounds-walk-end g c = search part_within

pub walk-requires : goal.walk-requires
walk-requires g c = search room_to_count

pub slice_bounds-wait_to_enter-end : goal.slice_bounds-wait_to_enter-end
slice_bounds-wait_to_enter-end g c = search part_within

pub slice_bounds-validate-end : goal.slice_bounds-validate-end
slice_bounds-validate-end g c = search part_within

pub validate-requires : goal.validate-requires
validate-requires g c = search room_to_count

pub slice_bounds-wait_as_reader-end : goal.slice_bounds-wait_as_reader-end
slice_bounds-wait_as_reader-end g c = search part_within

pub slice_bounds-enter-end : goal.slice_bounds-enter-end
slice_bounds-enter-end g c = search part_within

pub returns-in-0 : goal.returns-in-0
returns-in-0 g c = search step_idle

pub returns-in-1 : goal.returns-in-1
returns-in-1 g c = search step_one

pub returns-in-2 : goal.returns-in-2
returns-in-2 g c = search step_two

pub returns-in-3 : goal.returns-in-3
returns-in-3 g c = search step_three

pub returns-in-4 : goal.returns-in-4
returns-in-4 g c = search step_four

pub returns-in-5 : goal.returns-in-5
returns-in-5 g c = search step_five

pub returns-in-6 : goal.returns-in-6
returns-in-6 g c = search step_six

pub returns-in-7 : goal.returns-in-7
returns-in-7 g c = search step_seven

pub returns-in-8-to-4294967295 : goal.returns-in-8-to-4294967295
returns-in-8-to-4294967295 g c = search step_none
