-- `words::word` meets its promise.
use mathlib.Core.Path.{sym}
use lib.ListN.{get_or-eq_default}
use Rattle.words.proofs.word.Goals as goal

pub returns-else-at-table : goal.returns-else-at-table
returns-else-at-table c = sym (get_or-eq_default c.args.table.now 0 c.if-at-table.false)
