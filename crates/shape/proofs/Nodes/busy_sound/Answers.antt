-- `shape::Nodes::busy_sound` meets its promise.
use Rattle.shape.proofs.Tests.{own_none, own_lost, prev_lost, all_named}
use Rattle.shape.proofs.Nodes.busy_sound.Goals as goal

pub returns-then-named-eq0 : goal.returns-then-named-eq0
returns-then-named-eq0 g c = search own_none

pub returns-then-not-names : goal.returns-then-not-names
returns-then-not-names g c = search own_lost

pub returns-then-not-names-2 : goal.returns-then-not-names-2
returns-then-not-names-2 g c = search prev_lost

pub returns : goal.returns
returns g c = search all_named
