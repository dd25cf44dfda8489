-- `nodesets::NodeSet::outside` meets its promise.
use borrow.Author.Rules.{rules}
use Rattle.nodesets.proofs.Set.{outside_start, outside_more, outside_done}
use Rattle.nodesets.proofs.NodeSet.outside.Goals as goal

pub loop-i-init : goal.loop-i-init
loop-i-init c = (search rules, outside_start _ _ _)

pub loop-i-preserved : goal.loop-i-preserved
loop-i-preserved c = (search rules, search (outside_more, c.word_outside.ensures))

pub returns : goal.returns
returns c = rw (← c.self.view_is) (search outside_done)
