-- `reach::free_set` meets its promise.
use Rattle.reach.proofs.Ways.{head_within, some_hops, free_now}
use Rattle.reach.proofs.free_set.Goals as goal

pub reach-requires : goal.reach-requires
reach-requires g c =
    let lent = c.args.tables.now in
    let ok = c.are_sound.ensures in
    record { is_node_or_0 = head_within lent.sheet lent.nodes lent.seats ok _ c.link.ensures; some_hops = some_hops lent.sheet lent.nodes lent.seats ok _ c.node_count-n.ensures }

pub returns : goal.returns
returns g c =
    let lent = c.args.tables.now in
    free_now lent.sheet lent.nodes lent.seats c.are_sound.ensures _ _ _ _ _ _ _ c.outside.ensures c.reach_others.ensures c.reach.ensures c.empty-used.ensures c.node_count-n.ensures c.link.ensures
