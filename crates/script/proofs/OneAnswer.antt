-- The promise of `read` settles what it gives back: two results that meet it on the same bytes are equal. It is the promise itself that
-- is cited, as the checker reads it from the source.
use Rattle.rules.proofs.Laws.OneAnswer.{SettlesAnswer, one_script}
use Rattle.script.proofs.read.Reads as read
use Rattle.script.proofs.read.Kinds as kinds

pub one_reading : SettlesAnswer kinds.ps kinds.r read.Post
one_reading κs bytes a b s t p q = one_script _ a b p q
