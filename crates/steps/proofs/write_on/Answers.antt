-- `steps::write_on` meets its promise.
use Rattle.steps.proofs.Arms.{write_marked, write_past, write_clash}
use Rattle.steps.proofs.write_on.Goals as goal

pub returns-then-node_word-eq1 : goal.returns-then-node_word-eq1
returns-then-node_word-eq1 g c = search write_marked

pub returns-then-ends_before : goal.returns-then-ends_before
returns-then-ends_before g c =
    write_past _ _ _ _ _ _ c.field-cur.ensures _ c.node_word.ensures _ c.ends_before.ensures c.pass.ensures c.if-ends_before.true c.if-node_word-eq1.false

pub returns : goal.returns
returns g c = search write_clash
