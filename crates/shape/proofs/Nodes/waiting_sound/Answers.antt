-- `shape::Nodes::waiting_sound` meets its promise.
use Rattle.shape.proofs.Tests.{waits_nowhere, waits_at_cur}
use Rattle.shape.proofs.Nodes.waiting_sound.Goals as goal

pub returns-then-named-eq0 : goal.returns-then-named-eq0
returns-then-named-eq0 g c = search waits_nowhere

pub returns : goal.returns
returns g c = search waits_at_cur
