-- `Page::put_wait` meets its contract: its three calls put three texts, one after another.
use Rattle.std.proofs.Common.{arith}
use Rattle.rules.specs.Play.{answer_text}
use Rattle.text.proofs.Pages.{then_two}
use Rattle.text.proofs.Page.put_wait.Goals as goal

pub returns-clause-is_printed : goal.returns-clause-is_printed
unfolding answer_text
returns-clause-is_printed c = then_two _ _ (then_two _ _ c.put_named.ensures.is_printed c.put_next.ensures.is_printed) c.put_next-2.ensures.is_printed

pub returns-clause-at_most : goal.returns-clause-at_most
returns-clause-at_most c = let a = c.put_named.ensures.at_most (omega arith) in omega arith
