-- `boundary::soodhiqune_free_count` meets its promise.
use Rattle.boundary.proofs.Codes.{counted_is}
use Rattle.boundary.proofs.soodhiqune_free_count.Goals as goal

pub returns : goal.returns
returns c = search counted_is
