-- `run::stop_at_damage` meets its promise.
use Rattle.run.proofs.Counting.{stops_used, stops_refused}
use Rattle.run.proofs.stop_at_damage.Goals as goal

pub returns-then-steps-budget : goal.returns-then-steps-budget
returns-then-steps-budget c = search stops_used

pub returns : goal.returns
returns c = search stops_refused
