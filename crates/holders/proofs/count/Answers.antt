-- `holders::count` meets its promise.
use Rattle.std.proofs.Common.{arith}
use Rattle.holders.specs.Holding.{holding}
use Rattle.rules.specs.Notation.{count}
use mathlib.Core.Path.{refl}
use Rattle.holders.proofs.Rows.{holding_more, holding_same}
use Rattle.holders.proofs.count.Goals as goal

pub loop-s-init : goal.loop-s-init
unfolding holding count
loop-s-init g c = (omega arith, refl)

pub loop-s-preserved : goal.loop-s-preserved
loop-s-preserved g c = (omega arith, grind (arith, holding_more, holding_same))
