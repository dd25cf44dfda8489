-- `covering::put_below` meets its promise. The measure is the number of places left.
use Rattle.covering.proofs.Moving.{Lowering}
use Prim.Native.Nat.{◌-◌}
use Rattle.covering.proofs.put_below.Given as goal

abbrev pub invariant-loop-places : goal.invariant-loop-places
invariant-loop-places l = Lowering l.initial.places l.low l.run l.places l.at

abbrev pub decreases-loop-places : goal.decreases-loop-places
decreases-loop-places l = 128 - l.at
