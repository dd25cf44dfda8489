-- `script::digits` meets its contract.
use Rattle.script.proofs.Reading.{digits_stop, digits_go, digits_full}
use Rattle.script.proofs.digits.Goals as goal

pub returns-in_default : goal.returns-in_default
returns-in_default c = digits_stop _ _ _ c.loop.counter 9 c.loop.invariant c.in_default.ensures

pub loop-preserved : goal.loop-preserved
loop-preserved c = digits_go _ _ _ c.loop.counter 9 c.loop.invariant _ c.in-Some.ensures c.loop-test.true

pub returns : goal.returns
returns c = digits_full _ _ _ c.loop.counter 9 c.loop.invariant c.loop-test.false
