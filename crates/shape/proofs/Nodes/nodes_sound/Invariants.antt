-- `shape::Nodes::nodes_sound` meets its promise.
use Rattle.std.proofs.Common.{◌≡◌, true}
use Rattle.shape.proofs.Tests.{nodes_below}
use Rattle.shape.proofs.Nodes.nodes_sound.Given as goal

abbrev pub invariant-loop-i : goal.invariant-loop-i
invariant-loop-i g l = nodes_below g.P.Profile.SHEET l.self l.title l.i ≡ true
