-- `holders::covered` meets its promise.
use Rattle.std.proofs.Common.{arith}
use borrow.Author.Rules.{rules}
use Rattle.holders.proofs.Gathering.{gathered_none, gathered_more, gathered_same, gathered_all}
use Rattle.holders.proofs.covered.Goals as goal

pub loop-seat-init : goal.loop-seat-init
loop-seat-init g c = rw c.none-runs.ensures (gathered_none _)

pub loop-seat-preserved : goal.loop-seat-preserved
loop-seat-preserved g c = grind (arith, gathered_more, gathered_same)

pub returns : goal.returns
returns g c = search (gathered_all, rules)
