-- `covering::Runs::placed` meets its promise.
use Rattle.covering.proofs.Placing.{rows_length}
use Rattle.covering.proofs.Runs.placed.Goals as goal

pub returns-clause-all : goal.returns-clause-all
returns-clause-all c = rows_length _ _ _
