-- `boundary::tell_board` meets its promise.
use Rattle.std.proofs.Common.{rules}
use Rattle.boundary.specs.Encoded.{tell_answer}
use Rattle.boundary.proofs.tell_board.Goals as goal

pub returns-in-Ok : goal.returns-in-Ok
unfolding tell_answer
returns-in-Ok c = search rules

pub returns-in-Err : goal.returns-in-Err
unfolding tell_answer
returns-in-Err c = search rules
