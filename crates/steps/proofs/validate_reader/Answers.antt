-- `steps::validate_reader` meets its promise.
use Rattle.steps.proofs.Arms.{reader_holds, reader_on}
use Rattle.steps.proofs.validate_reader.Goals as goal

pub returns-then-is_past : goal.returns-then-is_past
returns-then-is_past g c = search reader_holds

pub returns : goal.returns
returns g c = search reader_on
