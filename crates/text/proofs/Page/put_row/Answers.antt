-- `Page::put_row` meets its contract: its five calls put five texts, one after another, of 49 bytes at most.
use Rattle.std.proofs.Common.{arith}
use Rattle.rules.specs.Play.{row_text}
use Rattle.text.proofs.Pages.{then, then_two, reaches}
use Rattle.text.proofs.Page.put_row.Goals as goal

pub returns-clause-is_printed : goal.returns-clause-is_printed
unfolding row_text
returns-clause-is_printed c =
    let first = then_two _ _ c.put_named.ensures.is_printed c.put_next.ensures.is_printed in
    let end = then_two _ _ first c.put_next-2.ensures.is_printed in
    let kind = then_two _ _ end c.put_next-3.ensures.is_printed in
    then kind c.put_byte.ensures

pub returns-clause-at_most : goal.returns-clause-at_most
returns-clause-at_most c =
    let a = c.put_named.ensures.at_most (omega arith) in
    let b = reaches _ _ _ c.put_byte.ensures in
    omega arith
