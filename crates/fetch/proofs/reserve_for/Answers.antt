-- `fetch::reserve_for` meets its promise.
use Rattle.fetch.proofs.Ways.{reserves}
use Rattle.fetch.proofs.reserve_for.Goals as goal

pub returns : goal.returns
returns g c = search reserves
