-- `Page::put_line` meets its contract.
use Rattle.std.proofs.Common.{arith}
use Rattle.text.proofs.Pages.{then}
use Rattle.text.proofs.Lines.{line_reaches}
use Rattle.text.proofs.Page.put_line.Goals as goal

pub returns-clause-is_printed : goal.returns-clause-is_printed
returns-clause-is_printed c = then c.put_named.ensures.is_printed c.put_byte.ensures

pub returns-clause-at_most : goal.returns-clause-at_most
returns-clause-at_most c = line_reaches _ _ _ c.args.n (then c.put_named.ensures.is_printed c.put_byte.ensures) (omega arith)
