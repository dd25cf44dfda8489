-- `words::clear_seat` meets its promise.
use lib.ListN.{length}
use mathlib.Core.Path.{◌≡◌}
use Rattle.rules.specs.Tables.{clear_words}
use Rattle.words.proofs.clear_seat.Given as goal

abbrev pub invariant-loop-at : goal.invariant-loop-at
invariant-loop-at g l = (length l.seat ≡ length l.initial.seat) × (l.seat ≡ clear_words g.P.Profile.SHEET l.at l.initial.seat 0)
