-- `boundary::read_into` meets its promise.
use Rattle.boundary.proofs.Codes.{read_good, read_bad}
use Rattle.boundary.proofs.read_into.Goals as goal

pub returns-in-Ok : goal.returns-in-Ok
returns-in-Ok c = read_good _ _ _ _ c.put_script.ensures c.in-Ok.ensures

pub returns-in-Err : goal.returns-in-Err
returns-in-Err c = read_bad _ _ _ _ (rw c.number.ensures at c.joined.ensures) c.in-Err.ensures
