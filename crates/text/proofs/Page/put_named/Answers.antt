-- `Page::put_named` meets its contract.
use Rattle.text.proofs.Pages.{then}
use Rattle.text.proofs.Lines.{named_reaches}
use Rattle.text.proofs.Page.put_named.Goals as goal

pub returns-clause-is_printed : goal.returns-clause-is_printed
returns-clause-is_printed c = then c.put_text.ensures c.put_number.ensures

pub returns-clause-at_most : goal.returns-clause-at_most
returns-clause-at_most c h = named_reaches _ _ _ c.args.n (then c.put_text.ensures c.put_number.ensures) h
