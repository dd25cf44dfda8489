-- `steps::wait_as_reader` meets its promise.
use Rattle.steps.proofs.Arms.{reader_is}
use Rattle.steps.proofs.wait_as_reader.Goals as goal

pub returns : goal.returns
returns g c = search reader_is
