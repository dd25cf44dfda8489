-- `board::fill` meets its promise.
use borrow.Author.Rules.{rules}
use Rattle.board.proofs.Rows.{filling_none, row_fits, filling_more, filling_same, filling_counted, filling_all}
use Rattle.board.proofs.fill.Goals.{then-holds, else-holds}
use Rattle.board.proofs.fill.Goals as goal

pub loop-s-init : goal.loop-s-init
loop-s-init g c = filling_none _ _

pub put_row-requires : goal.put_row-requires
put_row-requires g c = search (row_fits, rules)

pub loop-s-preserved : goal.loop-s-preserved
loop-s-preserved g c =
    elim c.if-holds.branch [
      | then-holds w ↦ rw (w.rows-is, w.out-is) (search filling_more)
      | else-holds w ↦ rw (w.rows-is, w.out-is) (search filling_same)
    ]

pub returns-clause-rows : goal.returns-clause-rows
returns-clause-rows g c = search filling_counted

pub returns-clause-numbers : goal.returns-clause-numbers
returns-clause-numbers g c = search filling_all
