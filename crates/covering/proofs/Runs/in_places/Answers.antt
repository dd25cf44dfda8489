-- `covering::Runs::in_places` meets its promise.
use mathlib.Core.Path.{sym}
use Rattle.covering.proofs.Placing.{rows_length}
use Rattle.covering.proofs.Runs.in_places.Goals as goal

pub returns-clause-all : goal.returns-clause-all
returns-clause-all c = rw (← c.self.view_is) (sym (rows_length _ _ _))
