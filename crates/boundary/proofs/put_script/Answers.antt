-- `boundary::put_script` meets its promise.
use Rattle.boundary.proofs.Codes.{script_is}
use Rattle.boundary.proofs.put_script.Goals as goal

pub returns : goal.returns
returns c = script_is _ _ _ c.put_lines.ensures
