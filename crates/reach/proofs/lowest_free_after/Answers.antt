-- `reach::lowest_free_after` meets its promise.
use Rattle.reach.proofs.Ways.{lowest_read}
use Rattle.reach.proofs.lowest_free_after.Goals as goal

pub returns : goal.returns
returns g c = search lowest_read
