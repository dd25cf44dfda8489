-- `reach::free_set_after` meets its promise.
use Rattle.reach.proofs.Ways.{free_after}
use Rattle.reach.proofs.free_set_after.Goals as goal

pub returns : goal.returns
returns g c =
    let lent = c.args.tables.now in
    free_after lent.sheet lent.nodes lent.seats c.are_sound.ensures _ _ _ _ _ c.outside.ensures c.reach_others.ensures c.kept_set-used.ensures c.node_count.ensures
