-- `claims::step_and_answer` meets its promise. That the step was made is asked of a tactic, and by no name of a `?`: a wrong program that goes on
-- after a refusal is then refused for this very fact.
use borrow.Author.Rules.{rules}
use Rattle.claims.proofs.Ways.{part_there, step_answered}
use Rattle.claims.proofs.step_and_answer.Goals as goal

pub slice_bounds-answer-end : goal.slice_bounds-answer-end
slice_bounds-answer-end g c = part_there _ _ _ _ _ _ _ c.step_known.ensures (search rules) _ _ c.seat_start-start.ensures.place c.seat_end-end.ensures c.step_known.auto.seats

pub returns : goal.returns
returns g c = step_answered _ _ _ _ _ _ _ c.step_known.ensures (search rules) _ _ c.seat_start-start.ensures.place c.seat_end-end.ensures c.step_known.auto.seats _ c.answer.ensures
