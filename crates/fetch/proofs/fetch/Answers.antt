-- `fetch::fetch` meets its promise.
use Rattle.std.proofs.Common.{sym, ◌∙◌}
use Rattle.fetch.proofs.Ways.{fetch_taken, fetch_tried_again}
use Rattle.fetch.proofs.fetch.Goals as goal

pub returns-in_default : goal.returns-in_default
returns-in_default g c =
    let lowest = rw c.tables.ensures at c.lowest_free.ensures in
    fetch_tried_again _ _ _ _ _ _ _ _ (sym c.in_default.is ∙ lowest) c.fetch_again.ensures

pub returns : goal.returns
returns g c =
    let lowest = rw c.tables.ensures at c.lowest_free.ensures in
    fetch_taken _ _ _ _ _ _ _ _ c.take_node.ensures (sym c.in-Some.is ∙ lowest)
