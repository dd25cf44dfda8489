-- `posix::lock_refusal` meets its promise.
use Rattle.posix.proofs.One.{lock_starts_below, lock_reaches_below, lock_back, lock_to_the_end, lock_on}
use Rattle.posix.proofs.lock_refusal.Goals as goal

pub returns-then-one-lt0 : goal.returns-then-one-lt0
returns-then-one-lt0 c = search lock_starts_below

pub returns-in-minus9223372036854775808-to-minus1 : goal.returns-in-minus9223372036854775808-to-minus1
returns-in-minus9223372036854775808-to-minus1 c = search lock_reaches_below

pub returns-in-minus9223372036854775808-to-minus1-2 : goal.returns-in-minus9223372036854775808-to-minus1-2
returns-in-minus9223372036854775808-to-minus1-2 c = search lock_back

pub returns-in-0 : goal.returns-in-0
returns-in-0 c = search lock_to_the_end

pub returns-in-1-to-9223372036854775807 : goal.returns-in-1-to-9223372036854775807
returns-in-1-to-9223372036854775807 c = search lock_on
