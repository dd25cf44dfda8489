-- `posix::is_type` meets its promise.
use Rattle.posix.proofs.Signs.{is_1, is_2_or_none}
use Rattle.posix.proofs.is_type.Goals as goal

pub returns-then-number-eq1 : goal.returns-then-number-eq1
returns-then-number-eq1 c = search is_1

pub returns-else-number-eq1 : goal.returns-else-number-eq1
returns-else-number-eq1 c = search is_2_or_none
