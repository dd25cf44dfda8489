-- `playing::put_list` meets its contract: its parts, one after another.
use Rattle.std.proofs.Common.{arith}
use Rattle.text.proofs.Pages.{reaches}
use Rattle.playing.proofs.Listing.{list_is}
use Rattle.playing.proofs.put_list.Goals as goal

pub returns-clause-is_printed : goal.returns-clause-is_printed
returns-clause-is_printed c = list_is _ _ _ _ _ _ _ c.put_text.ensures c.put_listed.ensures.is_printed c.put_byte.ensures c.node_count.ensures c.link.ensures

pub returns-clause-at_most : goal.returns-clause-at_most
returns-clause-at_most c =
    let a = reaches _ _ _ c.put_text.ensures in
    let b = reaches _ _ _ c.put_byte.ensures in
    let d = c.put_listed.ensures.at_most in
    let e = c.node_count.ensures in
    omega arith
