-- `Page::put_refusal` meets its contract.
use Rattle.std.proofs.Common.{arith, rules}
use Rattle.rules.specs.Play.{answer_text}
use Rattle.text.proofs.Page.put_refusal.Goals as goal

pub returns-clause-is_printed : goal.returns-clause-is_printed
unfolding answer_text
returns-clause-is_printed c = search rules

pub returns-clause-at_most : goal.returns-clause-at_most
returns-clause-at_most c = let a = c.put_named.ensures.at_most (omega arith) in omega arith
