-- `posix::put_locks` meets its promise.
use Rattle.posix.proofs.Lists.{stored_all}
use Rattle.posix.proofs.Calls.{claim_in_order, lock_stored}
use Rattle.posix.proofs.put_locks.Goals as goal

pub lock_of-requires : goal.lock_of-requires
lock_of-requires c = search claim_in_order

pub loop-place-preserved : goal.loop-place-preserved
loop-place-preserved c = search lock_stored

pub returns : goal.returns
returns c = search stored_all
