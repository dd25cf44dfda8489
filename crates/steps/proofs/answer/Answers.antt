-- `steps::answer` meets its promise.
use Rattle.steps.proofs.Arms.{answer_wait, answer_held, answer_back, answer_on}
use Rattle.steps.proofs.answer.Goals as goal

pub returns-in-2 : goal.returns-in-2
returns-in-2 g c = search answer_wait

pub returns-in-5 : goal.returns-in-5
returns-in-5 g c = search answer_held

pub returns-in-6 : goal.returns-in-6
returns-in-6 g c = search answer_back

pub returns-in_default : goal.returns-in_default
returns-in_default g c = search answer_on
