-- `steps::insert` meets its promise.
use Rattle.steps.proofs.Arms.{linked_count, insert_joined, insert_not}
use borrow.Author.Rules.{rules}
use Rattle.steps.proofs.insert.Goals as goal

pub once_linked-requires : goal.once_linked-requires
once_linked-requires g c = linked_count _ _ _ _ _ c.link_in.ensures (search rules)

pub returns-then-is_joined : goal.returns-then-is_joined
returns-then-is_joined g c = search insert_joined

pub returns : goal.returns
returns g c = search insert_not
