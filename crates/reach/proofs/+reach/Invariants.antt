-- The hops left fall from call to call.
use Rattle.reach.proofs.+reach.Given as goal

abbrev pub decreases-reach : goal.decreases-reach
decreases-reach g l = l.hops
