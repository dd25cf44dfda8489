-- `steps::validate_writer` meets its promise.
use Rattle.steps.proofs.Arms.{writer_holds, writer_ends, writer_on}
use Rattle.steps.proofs.validate_writer.Goals as goal

pub returns-then-cur-own : goal.returns-then-cur-own
returns-then-cur-own g c = search writer_holds

pub returns-then-cur-eq0 : goal.returns-then-cur-eq0
returns-then-cur-eq0 g c = search writer_ends

pub returns : goal.returns
returns g c = search writer_on
