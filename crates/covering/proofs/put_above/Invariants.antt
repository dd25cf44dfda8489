-- `covering::put_above` meets its promise. The measure is the place that is open.
use Rattle.covering.proofs.Moving.{Raising}
use Rattle.covering.proofs.put_above.Given as goal

abbrev pub invariant-loop-places : goal.invariant-loop-places
invariant-loop-places l = Raising l.initial.places l.high l.run l.places l.at

abbrev pub decreases-loop-places : goal.decreases-loop-places
decreases-loop-places l = l.at
