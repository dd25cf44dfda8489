-- `shape::may_claim` meets its promise.
use Rattle.shape.proofs.Tests.{least_small, may_claim_is}
use Rattle.shape.proofs.may_claim.Goals as goal

pub overflow_sub-result : goal.overflow_sub-result
overflow_sub-result g c = search least_small

pub returns : goal.returns
returns g c = search may_claim_is
