-- `nodesets::NodeSet::lowest` meets its promise.
use Rattle.nodesets.proofs.Set.{clear_start, clear_more, lowest_found, lowest_clear}
use Rattle.nodesets.proofs.NodeSet.lowest.Goals as goal

pub loop-i-init : goal.loop-i-init
loop-i-init c = clear_start _

pub returns-then-word-ne0 : goal.returns-then-word-ne0
returns-then-word-ne0 c = rw (← c.self.view_is) (search lowest_found)

pub loop-i-preserved : goal.loop-i-preserved
loop-i-preserved c = search clear_more

pub returns : goal.returns
returns c = rw (← c.self.view_is) (search lowest_clear)
