-- `boundary::soodhiqune_board` meets its promise.
use Rattle.boundary.proofs.Codes.{board_told_is}
use Rattle.boundary.proofs.soodhiqune_board.Goals as goal

pub returns : goal.returns
returns c = search board_told_is
