-- `words::node_count` meets its promise.
use borrow.Author.Rules.{rules}
use Rattle.rules.specs.Tables.{node_count_of}
use Rattle.words.proofs.node_count.Goals as goal

pub returns-then-length-before : goal.returns-then-length-before
unfolding node_count_of
returns-then-length-before g c = search rules

pub returns : goal.returns
unfolding node_count_of
returns g c = search rules
