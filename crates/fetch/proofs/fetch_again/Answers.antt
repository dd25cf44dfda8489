-- `fetch::fetch_again` meets its promise.
use Rattle.std.proofs.Common.{sym, ◌∙◌}
use Rattle.fetch.proofs.Ways.{out_asks, again_none, again_taken}
use Rattle.fetch.proofs.fetch_again.Goals as goal

pub returns-in_err-a : goal.returns-in_err-a
returns-in_err-a g c =
    let lowest = rw c.tables.ensures at c.lowest_free_after.ensures in
    rw c.from_residual.ensures (again_none _ _ _ c.args.nodes.now c.args.seats.now _ _ (sym c.in_err-a.was ∙ lowest))

pub take_out-requires : goal.take_out-requires
take_out-requires g c = let z = out_asks _ _ _ c.requires.tables_sound in record { list_ends = z.0; links = z.1 }

pub returns : goal.returns
returns g c =
    let lowest = rw c.tables.ensures at c.lowest_free_after.ensures in
    again_taken _ _ _ _ _ _ _ _ _ c.take_node.ensures c.take_out.ensures.out (sym c.in_ok-a.was ∙ lowest)
