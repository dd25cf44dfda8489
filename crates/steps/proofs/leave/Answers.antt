-- `steps::leave` meets its promise.
use Rattle.steps.proofs.Arms.{leave_is, count_some}
use borrow.Author.Rules.{rules}
use Rattle.steps.proofs.leave.Goals as goal

pub overflow_sub-count : goal.overflow_sub-count
overflow_sub-count g c = search (count_some, rules)

pub returns : goal.returns
returns g c = search leave_is
