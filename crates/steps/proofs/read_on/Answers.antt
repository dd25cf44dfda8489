-- `steps::read_on` meets its promise.
use Rattle.steps.proofs.Arms.{read_marked, read_reader, read_writer}
use Rattle.steps.proofs.read_on.Goals as goal

pub returns-then-node_word-eq1 : goal.returns-then-node_word-eq1
returns-then-node_word-eq1 g c = search read_marked

pub returns-then-node_word-eq1-2 : goal.returns-then-node_word-eq1-2
returns-then-node_word-eq1-2 g c =
    read_reader _ _ _ _ _ _ c.field-cur.ensures _ c.node_word.ensures _ c.node_word-2.ensures c.pass.ensures c.if-node_word-eq1-2.true c.if-node_word-eq1.false

pub returns : goal.returns
returns g c =
    read_writer _ _ _ _ _ _ c.field-cur.ensures _ c.node_word.ensures _ c.node_word-2.ensures c.put_field.ensures c.if-node_word-eq1-2.false c.if-node_word-eq1.false
