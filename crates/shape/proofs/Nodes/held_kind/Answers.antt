-- `shape::Nodes::held_kind` meets its promise.
use Rattle.shape.proofs.Counted.{holder_none, holder_some, holder_in, holder_kind}
use Rattle.std.proofs.Common.{rules}
use Rattle.shape.proofs.Nodes.held_kind.Goals as goal

pub word-requires : goal.word-requires
word-requires g c = record { is_node = search holder_some; has_node = search holder_in; has_word = search rules }

pub returns-then-holds : goal.returns-then-holds
returns-then-holds g c = search holder_kind

pub returns : goal.returns
returns g c = search holder_none
