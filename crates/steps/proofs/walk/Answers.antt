-- `steps::walk` meets its promise.
use Rattle.steps.proofs.Arms.{walk_end, walk_marked, walk_on}
use Rattle.steps.proofs.walk.Goals as goal

pub returns-then-cur-eq0 : goal.returns-then-cur-eq0
returns-then-cur-eq0 g c = search walk_end

pub returns-then-node_word-eq1 : goal.returns-then-node_word-eq1
returns-then-node_word-eq1 g c = search walk_marked

pub returns : goal.returns
returns g c = search walk_on
