-- `shape::Nodes::seats_and_counts_sound` meets its promise.
use Rattle.std.proofs.Common.{refl, arith, rules}
use Rattle.shape.proofs.Counted.{counted_none, counted_reader, counted_writer, counted_other, seat_fits, seat_fails, all_counted}
use Rattle.shape.proofs.Nodes.seats_and_counts_sound.Goals as goal
use Rattle.shape.proofs.Nodes.seats_and_counts_sound.Goals.{in-1, in-2, in_default}

pub loop-s-init : goal.loop-s-init
loop-s-init g c = (omega arith, omega arith, omega arith, counted_none _ _ _)

pub returns-then-not-seat_sound : goal.returns-then-not-seat_sound
returns-then-not-seat_sound g c = search seat_fails

pub held_kind-requires : goal.held_kind-requires
held_kind-requires g c = record { has_seat = search rules; seat_is_sound = seat_fits _ _ _ _ _ c.seat_sound.ensures (rw c.if-not-seat_sound.false refl) }

pub loop-s-preserved : goal.loop-s-preserved
loop-s-preserved g c =
    elim c.match-held_kind.branch [
      | in-1 w ↦ (omega arith, omega arith, omega arith, rw (w.reading-is, w.writing-is) (search counted_reader))
      | in-2 w ↦ (omega arith, omega arith, omega arith, rw (w.reading-is, w.writing-is) (search counted_writer))
      | in_default w ↦ (omega arith, omega arith, omega arith, rw (w.reading-is, w.writing-is) (search counted_other))
    ]

pub returns : goal.returns
returns g c = search all_counted
