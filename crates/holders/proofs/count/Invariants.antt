-- `holders::count` meets its promise.
use Prim.Native.Nat.{◌≤◌}
use mathlib.Core.Path.{◌≡◌}
use Rattle.holders.specs.Holding.{holding}
use Rattle.holders.proofs.count.Given as goal

abbrev pub invariant-loop-s : goal.invariant-loop-s
invariant-loop-s g l = (l.found ≤ l.s) × (l.found ≡ holding g.P.Profile.SHEET l.seats l.s)
