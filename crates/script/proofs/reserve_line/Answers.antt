-- `script::reserve_line` meets its contract.
use Rattle.script.proofs.Reading.{reserve_here}
use Rattle.script.proofs.reserve_line.Goals as goal

pub returns : goal.returns
returns c = reserve_here _ _ _ c.in_ok-seat.ensures _ c.in_ok-start.ensures _ c.in_ok-end.ensures _ c.in_ok-kind.ensures _ c.in_ok-next.ensures
