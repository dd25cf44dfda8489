-- `boundary::soodhiqune_reserve` meets its promise.
use Rattle.boundary.proofs.Codes.{encoded_is}
use Rattle.boundary.proofs.soodhiqune_reserve.Goals as goal

pub returns : goal.returns
returns c = search encoded_is
