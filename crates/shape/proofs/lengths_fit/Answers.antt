-- `shape::lengths_fit` meets its promise.
use Rattle.shape.proofs.Tests.{lengths_is}
use Rattle.shape.proofs.lengths_fit.Goals as goal

pub returns : goal.returns
returns g c = search lengths_is
