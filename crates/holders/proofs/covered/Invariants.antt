-- `holders::covered` meets its promise. The loop's invariant: the runs of the holders passed are gathered.
use Rattle.holders.proofs.Gathering.{Gathered}
use Rattle.holders.proofs.covered.Given as goal

abbrev pub invariant-loop-seat : goal.invariant-loop-seat
invariant-loop-seat g l = Gathered l.tables l.runs l.seat
