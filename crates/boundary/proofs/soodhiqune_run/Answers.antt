-- `boundary::soodhiqune_run` meets its promise.
use Rattle.boundary.proofs.Codes.{run_is}
use Rattle.boundary.proofs.soodhiqune_run.Goals as goal

pub returns : goal.returns
returns c = search run_is
