-- `shape::holds` meets its promise.
use Rattle.shape.proofs.Counted.{is_holder}
use Rattle.shape.proofs.holds.Goals as goal

pub returns : goal.returns
returns g c = search is_holder
