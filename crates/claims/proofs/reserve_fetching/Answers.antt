-- `claims::reserve_fetching` meets its promise.
use Rattle.claims.proofs.Ways.{reserve_none, reserve_node}
use Rattle.fetch.proofs.Ways.{idle_no_prev, idle_no_cur}
use Rattle.claims.proofs.reserve_fetching.Goals as goal

pub fetch-requires : goal.fetch-requires
fetch-requires g c = search (idle_no_prev, idle_no_cur)

pub returns-in-Some : goal.returns-in-Some
returns-in-Some g c = reserve_node _ _ _ _ _ _ _ _ c.fetch.ensures _ c.in-Some.is

pub returns-in-None : goal.returns-in-None
returns-in-None g c = reserve_none _ _ _ _ _ _ _ _ c.fetch.ensures c.in-None.is
