-- The part of a node table from node 1 on, in which a node's words stand at the same places whatever stands before node 1. What is said of its
-- nodes is said of this table: zeros before node 1, then the part.
use Rattle.std.specs.Prelude.{Bool, List, ◌++◌, ℕ}
use Rattle.rules.specs.Tables.{before_nodes, zeros}

unfoldable pub with_zeros : Bool → List ℕ → List ℕ
with_zeros sheet part = zeros (before_nodes sheet) ++ part
