-- `boundary::number_of` meets its promise.
use Rattle.boundary.proofs.Codes.{encoded_by}
use Rattle.boundary.proofs.number_of.Goals as goal

pub returns : goal.returns
returns c = search encoded_by
