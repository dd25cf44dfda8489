-- `shape::Nodes::seats_and_counts_sound` meets its promise.
use Rattle.std.proofs.Common.{◌-◌, ◌≤◌}
use Rattle.shape.proofs.Counted.{Counted}
use Rattle.shape.proofs.Nodes.seats_and_counts_sound.Given as goal

abbrev pub invariant-loop-s : goal.invariant-loop-s
invariant-loop-s g l = (l.s ≤ l.count) × (l.reading ≤ l.s) × (l.writing ≤ l.s) × Counted g.P.Profile.SHEET l.self l.seats l.s l.reading l.writing

abbrev pub decreases-loop-s : goal.decreases-loop-s
decreases-loop-s g l = l.count - l.s
