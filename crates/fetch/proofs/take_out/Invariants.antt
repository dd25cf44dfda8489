-- `fetch::take_out` meets its promise: each turn of its loop takes the walk on by one of the ways of Taking.
use Rattle.fetch.proofs.Taking.{Taking}
use Rattle.rules.specs.Fetch.{taken_out}
use Rattle.rules.specs.Tables.{tables}
use lib.ListN.{length}
use mathlib.Core.List.{[]}
use mathlib.Core.Path.{◌≡◌}
use Rattle.fetch.proofs.take_out.Given as goal

abbrev pub invariant-loop-cur : goal.invariant-loop-cur
invariant-loop-cur g l = (length l.nodes ≡ length l.initial.nodes) × Taking (taken_out (tables g.P.Profile.SHEET l.initial.nodes [])) (tables g.P.Profile.SHEET l.nodes []) l.left l.prev l.link l.cur

abbrev pub decreases-loop-cur : goal.decreases-loop-cur
decreases-loop-cur g l = l.left
