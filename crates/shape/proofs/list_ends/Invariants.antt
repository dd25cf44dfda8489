-- `shape::list_ends` meets its promise.
use Rattle.rules.specs.Shape.{ends_within}
use Rattle.rules.specs.Tables.{tables}
use Rattle.std.proofs.Common.{◌≡◌, ◌-◌, []}
use Rattle.shape.specs.Parts.{list_ends}
use Rattle.shape.proofs.list_ends.Given as goal

abbrev pub invariant-loop : goal.invariant-loop
invariant-loop g l = ends_within (l.n - l.counter) (tables g.P.Profile.SHEET l.nodes []) l.a ≡ list_ends (tables g.P.Profile.SHEET l.nodes [])
