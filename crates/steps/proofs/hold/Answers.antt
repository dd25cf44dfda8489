-- `steps::hold` meets its promise.
use Rattle.steps.proofs.Arms.{hold_is, count_fits}
use borrow.Author.Rules.{rules}
use Rattle.steps.proofs.hold.Goals as goal

pub overflow_add-count : goal.overflow_add-count
overflow_add-count g c = search (count_fits, rules)

pub returns : goal.returns
returns g c = search hold_is
