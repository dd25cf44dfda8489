-- `reach::reach_others` meets its promise.
use Rattle.reach.specs.Walks.{reach_seats}
use mathlib.Core.Path.{◌≡◌}
use Rattle.reach.proofs.reach_others.Given as goal

abbrev pub invariant-loop-r : goal.invariant-loop-r
invariant-loop-r g l = l.used ≡ reach_seats l.hops l.tables l.s l.initial.used l.r
