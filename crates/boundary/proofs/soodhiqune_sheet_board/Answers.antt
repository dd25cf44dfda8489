-- `boundary::soodhiqune_sheet_board` meets its promise.
use Rattle.boundary.proofs.Codes.{board_told_is}
use Rattle.boundary.proofs.soodhiqune_sheet_board.Goals as goal

pub returns : goal.returns
returns c = search board_told_is
