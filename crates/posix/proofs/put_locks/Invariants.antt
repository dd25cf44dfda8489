-- `posix::put_locks` meets its promise: so many records are stored, each behind the one before it.
use Rattle.posix.specs.Records.{put_lock, records_from, put_from, lock_for}
use Rattle.posix.proofs.Lists.{StoredUpTo}
use Rattle.posix.proofs.put_locks.Given as goal

abbrev pub invariant-loop-place : goal.invariant-loop-place
invariant-loop-place l =
    let stored = lock_for l.title l.claims in
    StoredUpTo put_lock stored (put_from put_lock 0 (records_from stored 0 l.place-end) l.initial.locks) l.place-end l.place l.locks
