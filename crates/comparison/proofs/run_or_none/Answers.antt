-- `comparison::run_or_none` meets its promise.
use Rattle.rules.proofs.Laws.SharedRuns.{some_run, no_run_law}
use Rattle.comparison.proofs.run_or_none.Goals as goal

pub returns-then-first-end : goal.returns-then-first-end
returns-then-first-end c = search some_run

pub returns : goal.returns
returns c = search no_run_law
