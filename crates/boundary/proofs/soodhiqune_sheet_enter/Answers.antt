-- `boundary::soodhiqune_sheet_enter` meets its promise.
use Rattle.boundary.proofs.Codes.{encoded_is}
use Rattle.boundary.proofs.soodhiqune_sheet_enter.Goals as goal

pub returns : goal.returns
returns c = search encoded_is
