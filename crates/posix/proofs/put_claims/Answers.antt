-- `posix::put_claims` meets its promise.
use Rattle.posix.proofs.Lists.{stored_all}
use Rattle.posix.proofs.Calls.{lock_passed, claim_stored}
use Rattle.posix.proofs.put_claims.Goals as goal

pub claim_of-requires : goal.claim_of-requires
claim_of-requires c = search lock_passed

pub loop-place-preserved : goal.loop-place-preserved
loop-place-preserved c = search claim_stored

pub returns : goal.returns
returns c = search stored_all
