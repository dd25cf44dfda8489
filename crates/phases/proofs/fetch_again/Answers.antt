-- `phases::fetch_again` meets its promise.
use Rattle.phases.proofs.Ways.{refetch_none, refetch_node}
use Rattle.fetch.proofs.Ways.{withdrawn_no_prev, withdrawn_no_cur}
use Rattle.phases.proofs.fetch_again.Goals as goal

pub fetch-requires : goal.fetch-requires
fetch-requires g c = search (withdrawn_no_prev, withdrawn_no_cur)

pub returns-in-Some : goal.returns-in-Some
returns-in-Some g c = refetch_node _ _ _ _ _ _ _ _ c.node_claim-claim.ensures c.seat_word-own.ensures _ c.fetch.ensures _ c.in-Some.is

pub returns-in-None : goal.returns-in-None
returns-in-None g c = refetch_none _ _ _ _ _ _ _ _ c.node_claim-claim.ensures c.seat_word-own.ensures _ c.fetch.ensures c.in-None.is
