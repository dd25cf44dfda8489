-- `nodesets::NodeSet::join` meets its promise.
use Rattle.nodesets.proofs.Set.{join_found, join_new}
use Rattle.nodesets.proofs.NodeSet.join.Goals as goal

pub returns-then-more-word : goal.returns-then-more-word
returns-then-more-word c = rw (← c.self.view_is) (join_found _ _ _ c.word_with-more.ensures c.requires.is_node c.if-more-word.true)

pub returns : goal.returns
returns c = rw (← c.self.view_is) (join_new _ _ _ c.word_with-more.ensures c.requires.is_node c.if-more-word.false)
