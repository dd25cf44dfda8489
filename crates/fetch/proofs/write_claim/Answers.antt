-- `fetch::write_claim` meets its promise.
use Rattle.rules.specs.Fetch.{write_claim}
use Rattle.fetch.proofs.write_claim.Goals as goal

pub returns : goal.returns
unfolding write_claim
returns g c = cc
