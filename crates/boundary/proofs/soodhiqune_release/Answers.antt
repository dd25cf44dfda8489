-- `boundary::soodhiqune_release` meets its promise.
use Rattle.boundary.proofs.Codes.{encoded_is}
use Rattle.boundary.proofs.soodhiqune_release.Goals as goal

pub returns : goal.returns
returns c = search encoded_is
