-- `reach::reach_seat` meets its promise.
use Rattle.reach.proofs.Ways.{own_within, prev_within, cur_within, seat_reached, seat_resting}
use Rattle.reach.proofs.reach_seat.Goals as goal

pub reach-requires : goal.reach-requires
reach-requires g c =
    let lent = c.args.tables.now in
    record { is_node_or_0 = own_within lent.sheet lent.nodes lent.seats c.are_sound.ensures _ _ c.seat_word-own.ensures; some_hops = c.requires.some_hops }

pub reach-requires-2 : goal.reach-requires-2
reach-requires-2 g c =
    let lent = c.args.tables.now in
    record { is_node_or_0 = prev_within lent.sheet lent.nodes lent.seats c.are_sound.ensures _ _ c.seat_word-prev.ensures; some_hops = c.requires.some_hops }

pub reach-requires-3 : goal.reach-requires-3
reach-requires-3 g c =
    let lent = c.args.tables.now in
    record { is_node_or_0 = cur_within lent.sheet lent.nodes lent.seats c.are_sound.ensures _ _ c.seat_word-cur.ensures; some_hops = c.requires.some_hops }

pub returns-then-prev-cur : goal.returns-then-prev-cur
returns-then-prev-cur g c =
    let lent = c.args.tables.now in
    seat_resting lent.sheet _ _ _ _ _ lent.nodes lent.seats _ _ c.reach.ensures c.seat_word-own.ensures c.seat_word-prev.ensures c.seat_word-cur.ensures c.if-prev-cur.true

pub returns : goal.returns
returns g c =
    let lent = c.args.tables.now in
    seat_reached lent.sheet _ _ _ _ _ lent.nodes lent.seats _ _ _ _ c.reach-3.ensures c.reach-2.ensures c.reach.ensures c.seat_word-own.ensures c.seat_word-prev.ensures c.seat_word-cur.ensures
