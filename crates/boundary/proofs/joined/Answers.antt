-- `boundary::joined` meets its promise.
use Rattle.boundary.proofs.Codes.{joined_is}
use borrow.Author.Rules.{rules}
use Rattle.boundary.proofs.joined.Goals as goal

pub returns : goal.returns
returns c = search (joined_is, rules)
