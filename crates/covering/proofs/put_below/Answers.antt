-- `covering::put_below` meets its promise. The measure is the number of places left.
use borrow.Author.Rules.{rules}
use Rattle.covering.proofs.Moving.{lowering_none, lowering_more, lowering_done}
use Rattle.covering.proofs.put_below.Goals as goal

pub loop-places-init : goal.loop-places-init
loop-places-init c = search (lowering_none, rules)

pub loop-places-preserved : goal.loop-places-preserved
loop-places-preserved c = search lowering_more

pub returns : goal.returns
returns c = search lowering_done
