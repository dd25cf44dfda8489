-- `nodesets::word_outside` meets its promise.
use Rattle.nodesets.proofs.Word.{outside_none, outside_all, outside_some, mask_fits}
use Rattle.nodesets.proofs.word_outside.Goals as goal

pub returns-then-n-from : goal.returns-then-n-from
returns-then-n-from c = search outside_none

pub returns-then-n-from-ge64 : goal.returns-then-n-from-ge64
returns-then-n-from-ge64 c = search outside_all

pub overflow_sub-result-2 : goal.overflow_sub-result-2
overflow_sub-result-2 c = search mask_fits

pub returns : goal.returns
returns c = search outside_some
