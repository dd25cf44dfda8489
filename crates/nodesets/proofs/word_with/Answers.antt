-- `nodesets::word_with` meets its promise.
use Rattle.nodesets.proofs.Word.{add_shift}
use Rattle.nodesets.proofs.word_with.Goals as goal

pub returns : goal.returns
returns c = add_shift _ _ c.requires
