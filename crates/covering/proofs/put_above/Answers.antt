-- `covering::put_above` meets its promise. The measure is the place that is open.
use borrow.Author.Rules.{rules}
use Rattle.covering.proofs.Moving.{raising_none, raising_more, raising_done}
use Rattle.covering.proofs.put_above.Goals as goal

pub loop-places-init : goal.loop-places-init
loop-places-init c = search (raising_none, rules)

pub loop-places-preserved : goal.loop-places-preserved
loop-places-preserved c = search raising_more

pub returns : goal.returns
returns c = search raising_done
