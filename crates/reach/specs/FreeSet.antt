-- A set of nodes that holds the free ones of the rules and no others.
use Rattle.std.specs.Prelude.{ℕ, ◌+◌, ◌≤◌, ◌<◌, ◌≡◌, ◌&&◌, List}
use Rattle.rules.specs.Notation.{◌<?◌}
use Rattle.rules.specs.Tables.{Tables, node_count}
use Rattle.rules.specs.Reach.{free}
use Rattle.nodesets.specs.Set.{has}

pub record IsFreeSet (ws : List ℕ) (t : Tables) (s : ℕ) : Type 0 where
  pub few : node_count t ≤ 256
  pub free_nodes : (m : ℕ) → m < 256 → has ws (m + 1) ≡ (m <? node_count t && free t s (m + 1))
