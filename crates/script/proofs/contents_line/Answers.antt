-- `script::contents_line` meets its contract.
use Rattle.script.proofs.Reading.{contents_here}
use Rattle.script.proofs.contents_line.Goals as goal

pub returns : goal.returns
returns c = contents_here _ _ c.in_ok-n.ensures _ c.in_ok-s.ensures _ c.in_ok-k.ensures _ c.in_ok-title.ensures _ c.in_bounds.result c.in_bounds.ensures c.if-not-in_bounds.false c.in_ok-next.ensures
