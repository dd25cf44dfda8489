-- `posix::put_claims` meets its promise: so many records are stored, each behind the one before it.
use Rattle.posix.specs.Records.{put_claim, records_from, put_from, claim_for}
use Rattle.posix.proofs.Lists.{StoredUpTo}
use Rattle.posix.proofs.put_claims.Given as goal

abbrev pub invariant-loop-place : goal.invariant-loop-place
invariant-loop-place l =
    let stored = claim_for l.title l.locks in
    StoredUpTo put_claim stored (put_from put_claim 0 (records_from stored 0 l.place-end) l.initial.claims) l.place-end l.place l.claims
