-- `words::put` meets its promise.
use mathlib.Core.Path.{sym}
use lib.Seq.{set_out}
use Rattle.words.proofs.put.Goals as goal

pub returns-else-at-table : goal.returns-else-at-table
returns-else-at-table c = sym (set_out _ _ _ c.if-at-table.false)
