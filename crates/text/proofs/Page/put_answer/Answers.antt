-- `Page::put_answer` meets its contract.
use Rattle.std.proofs.Common.{arith, rules}
use Rattle.rules.specs.Play.{answer_text}
use Rattle.replies.specs.Codes.{answer_by}
use Rattle.text.proofs.Pages.{reaches}
use Rattle.text.proofs.Page.put_answer.Goals as goal

pub returns-in-Ok-Node-clause-is_printed : goal.returns-in-Ok-Node-clause-is_printed
unfolding answer_text answer_by
returns-in-Ok-Node-clause-is_printed c = search rules

pub returns-in-Ok-Node-clause-at_most : goal.returns-in-Ok-Node-clause-at_most
returns-in-Ok-Node-clause-at_most c = let a = c.put_named.ensures.at_most (omega arith) in omega arith

pub returns-in-Ok-Out-clause-is_printed : goal.returns-in-Ok-Out-clause-is_printed
unfolding answer_text answer_by
returns-in-Ok-Out-clause-is_printed c = search rules

pub returns-in-Ok-Out-clause-at_most : goal.returns-in-Ok-Out-clause-at_most
returns-in-Ok-Out-clause-at_most c = omega (arith, reaches _ _ _ c.put_text.ensures)

pub returns-in-Ok-On-clause-is_printed : goal.returns-in-Ok-On-clause-is_printed
unfolding answer_text answer_by
returns-in-Ok-On-clause-is_printed c = search rules

pub returns-in-Ok-On-clause-at_most : goal.returns-in-Ok-On-clause-at_most
returns-in-Ok-On-clause-at_most c = omega (arith, reaches _ _ _ c.put_text-in-Ok-On.ensures)

pub returns-in-Ok-Wait-clause-is_printed : goal.returns-in-Ok-Wait-clause-is_printed
unfolding answer_by
returns-in-Ok-Wait-clause-is_printed c = search rules

pub returns-in-Ok-Held-clause-is_printed : goal.returns-in-Ok-Held-clause-is_printed
unfolding answer_text answer_by
returns-in-Ok-Held-clause-is_printed c = search rules

pub returns-in-Ok-Held-clause-at_most : goal.returns-in-Ok-Held-clause-at_most
returns-in-Ok-Held-clause-at_most c = omega (arith, reaches _ _ _ c.put_text-in-Ok-Held.ensures)

pub returns-in-Ok-Back-clause-is_printed : goal.returns-in-Ok-Back-clause-is_printed
unfolding answer_text answer_by
returns-in-Ok-Back-clause-is_printed c = search rules

pub returns-in-Ok-Back-clause-at_most : goal.returns-in-Ok-Back-clause-at_most
returns-in-Ok-Back-clause-at_most c = omega (arith, reaches _ _ _ c.put_text-in-Ok-Back.ensures)

pub returns-in-Err-clause-is_printed : goal.returns-in-Err-clause-is_printed
unfolding answer_by
returns-in-Err-clause-is_printed c = search rules
