-- `boundary::soodhiqune_step` meets its promise.
use Rattle.boundary.proofs.Codes.{step_told_is}
use Rattle.boundary.proofs.soodhiqune_step.Goals as goal

pub returns : goal.returns
returns c = search step_told_is
