-- `reach::reach_others` meets its promise.
use Rattle.std.proofs.Common.{◌∙◌, rules}
use Rattle.reach.proofs.Ways.{some_hops, seats_start, seats_pass, seats_join, seats_done}
use Rattle.reach.proofs.reach_others.Goals as goal
use Rattle.reach.proofs.reach_others.Goals.{then-r-s, else-r-s}

pub loop-r-init : goal.loop-r-init
loop-r-init g c = seats_start _ _ _ _

pub reach_seat-requires : goal.reach_seat-requires
reach_seat-requires g c =
    let lent = c.args.tables.now in
    record { has_seat = search rules; some_hops = some_hops lent.sheet lent.nodes lent.seats c.are_sound.ensures _ c.node_count-hops.ensures }

pub loop-r-preserved : goal.loop-r-preserved
loop-r-preserved g c =
    elim c.if-r-s.branch [
      | then-r-s w ↦ w.used-is ∙ seats_join _ _ _ _ _ _ _ w.reach_seat.ensures c.loop-r.invariant w.if-r-s.true
      | else-r-s w ↦ w.used-is ∙ seats_pass _ _ _ _ _ _ c.loop-r.invariant (search rules)
    ]

pub returns : goal.returns
returns g c = seats_done _ _ _ _ _ _ _ c.loop-r.invariant c.loop-r.auto.r-end c.loop-r-test.false c.node_count-hops.ensures c.seat_count-r-end.ensures.all
