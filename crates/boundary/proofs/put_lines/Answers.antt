-- `boundary::put_lines` meets its promise.
use Rattle.std.proofs.Common.{refl, rules}
use Rattle.boundary.proofs.Codes.{lines_none, lines_again, lines_done}
use Rattle.boundary.proofs.put_lines.Goals as goal

pub loop-i-init : goal.loop-i-init
loop-i-init c = (refl, lines_none _ _)

pub loop-i-preserved : goal.loop-i-preserved
loop-i-preserved c = (search rules, search lines_again)
