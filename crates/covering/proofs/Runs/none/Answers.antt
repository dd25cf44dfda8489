-- `covering::Runs::none` meets its promise.
use Rattle.covering.specs.Runs.{rows_in}
use mathlib.Core.Path.{refl}
use Rattle.covering.proofs.Runs.none.Goals as goal

pub returns : goal.returns
unfolding rows_in
returns c = refl
