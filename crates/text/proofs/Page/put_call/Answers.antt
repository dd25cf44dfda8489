-- `Page::put_call` meets its contract: its four calls put four texts, one after another.
use Rattle.std.proofs.Common.{arith}
use Rattle.text.specs.Lines.{answer_line}
use Rattle.text.proofs.Pages.{then, reaches}
use Rattle.text.proofs.Decimals.{decimal_length}
use Rattle.text.proofs.Page.put_call.Goals as goal

pub returns-clause-is_printed : goal.returns-clause-is_printed
unfolding answer_line
returns-clause-is_printed c = then (then (then c.put_number.ensures c.put_byte.ensures) c.put_answer.ensures.is_printed) c.put_byte-2.ensures

pub returns-clause-at_most : goal.returns-clause-at_most
returns-clause-at_most c h =
    let a = reaches _ _ _ c.put_number.ensures in
    let b = decimal_length 3 c.args.number h in
    let d = reaches _ _ _ c.put_byte.ensures in
    let e = reaches _ _ _ c.put_byte-2.ensures in
    omega arith
