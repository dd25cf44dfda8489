-- `rows::fill` meets its promise.
use Prim.Native.Nat.{◌≤◌}
use Rattle.rows.proofs.Filling.{Filling}
use Rattle.rows.proofs.fill.Given as goal

abbrev pub invariant-loop-s : goal.invariant-loop-s
invariant-loop-s g l = (l.at ≤ l.s) × Filling l.tables l.initial.rows l.rows l.at l.s
