-- `Page::put_next` meets its contract.
use Rattle.std.proofs.Common.{arith}
use Rattle.text.proofs.Page.put_next.Goals as goal

pub returns-clause-at_most : goal.returns-clause-at_most
returns-clause-at_most c = let a = c.put_named.ensures.at_most (omega arith) in omega arith
