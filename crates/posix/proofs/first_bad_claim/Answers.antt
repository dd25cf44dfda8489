-- `posix::first_bad_claim` meets its promise.
use Rattle.std.proofs.Common.{rules}
use Rattle.posix.proofs.Calls.{claims_found}
use Rattle.posix.proofs.first_bad_claim.Goals as goal

pub returns : goal.returns
returns c = claims_found c.args.title c.args.claims.now _ (λ j r h s. search rules) c.first_bad.result c.first_bad.ensures
