-- `script::bodies` meets its contract.
use Rattle.std.proofs.Common.{arith, length-set, ◌∙◌}
use Rattle.std.proofs.lemmas.Result.{err_from_is_err_and}
use Rattle.rules.specs.Script.{good_script}
use Rattle.script.proofs.Reading.{or_none, or_some, bodies_again, bodies_wrong, bodies_extra, bodies_done}
use Rattle.script.proofs.bodies.Goals as goal

pub returns-in_err-body : goal.returns-in_err-body
returns-in_err-body c =
    let p = err_from_is_err_and c.from_residual.result c.from_residual.ensures.1 in
    let w = or_none _ _ _ c.in_err-body.ensures.value in
    rw (p.1, p.2, w.1) (bodies_wrong _ _ _ _ _ _ _ c.loop-i.invariant.rest c.loop-i-test.true (w.0 ∙ c.body_line.ensures))

pub loop-i-preserved : goal.loop-i-preserved
loop-i-preserved c = record {
  room = length-set _ _ _ ∙ c.loop-i.invariant.room;
  rest = bodies_again _ _ _ _ _ _ _ c.loop-i.invariant.rest c.loop-i-test.true _ (or_some _ _ _ c.in_ok-body.ensures.value ∙ c.body_line.ensures);
}

pub returns-then-at-src : goal.returns-then-at-src
returns-then-at-src c = bodies_extra _ _ _ _ _ _ _ c.loop-i.invariant.rest (omega arith) c.if-at-src.true

pub returns : goal.returns
unfolding good_script
returns c = bodies_done _ _ _ _ _ _ _ c.loop-i.invariant.rest (omega arith) c.if-at-src.false
