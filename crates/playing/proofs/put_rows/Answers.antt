-- `playing::put_rows` meets its contract.
use Rattle.std.proofs.Common.{arith}
use Rattle.playing.proofs.Holding.{text_start, text_again, text_done}
use Rattle.playing.proofs.put_rows.Goals as goal

pub loop-s-init : goal.loop-s-init
loop-s-init c = record { passed = text_start _ _; short = omega arith }

pub loop-s-preserved : goal.loop-s-preserved
loop-s-preserved c = record {
  passed = text_again _ _ _ _ _ c.loop-s.invariant.passed c.put_held.ensures.is_printed;
  short = omega arith;
}

pub returns-clause-is_printed : goal.returns-clause-is_printed
returns-clause-is_printed c = search text_done
