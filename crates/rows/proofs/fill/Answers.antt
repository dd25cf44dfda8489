-- `rows::fill` meets its promise.
use Rattle.std.proofs.Common.{arith}
use Rattle.rows.proofs.Filling.{filling_none, row_fits, filling_more, filling_same, filling_all}
use Rattle.rows.proofs.fill.Goals as goal

pub loop-s-init : goal.loop-s-init
loop-s-init g c = (omega arith, filling_none _ _)

pub loop-s-preserved : goal.loop-s-preserved
loop-s-preserved g c = (grind arith, grind (arith, row_fits, filling_more, filling_same))

pub bounds-rows-at : goal.bounds-rows-at
bounds-rows-at g c = rw c.loop-s.auto.rows (search row_fits)

pub returns : goal.returns
returns g c = search filling_all
