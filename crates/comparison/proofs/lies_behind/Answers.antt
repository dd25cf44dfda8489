-- `comparison::lies_behind` meets its promise.
use mathlib.Core.Path.{refl}
use Rattle.comparison.proofs.lies_behind.Goals as goal

pub returns : goal.returns
returns c = refl
