-- `reach::lowest_free` meets its promise.
use Rattle.reach.proofs.Ways.{lowest_read}
use Rattle.reach.proofs.lowest_free.Goals as goal

pub returns : goal.returns
returns g c = search lowest_read
