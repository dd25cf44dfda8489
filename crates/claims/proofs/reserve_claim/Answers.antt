-- `claims::reserve_claim` meets its promise. Each refusal is searched for among the laws of all of them, so that one out of its order is refused for the
-- test that it skips.
use Rattle.claims.proofs.Ways.{reserve_empty, reserve_beyond, reserve_kind, reserve_busy, reserve_idle}
use Rattle.claims.proofs.reserve_claim.Goals as goal

pub returns-then-claim : goal.returns-then-claim
returns-then-claim g c = search (reserve_empty, reserve_beyond, reserve_kind, reserve_busy)

pub returns-then-title-claim : goal.returns-then-title-claim
returns-then-title-claim g c = search (reserve_empty, reserve_beyond, reserve_kind, reserve_busy)

pub returns-then-not-known : goal.returns-then-not-known
returns-then-not-known g c = search (reserve_empty, reserve_beyond, reserve_kind, reserve_busy)

pub returns-in-0 : goal.returns-in-0
returns-in-0 g c = search reserve_idle

pub returns-in-1-to-4294967295 : goal.returns-in-1-to-4294967295
returns-in-1-to-4294967295 g c = search (reserve_empty, reserve_beyond, reserve_kind, reserve_busy)
