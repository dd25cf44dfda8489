-- Free count: "how many nodes are free, counted from the set of free nodes".
use Rattle.std.specs.Prelude.{ℕ, if◌then◌else◌}
use Rattle.rules.specs.Tables.{Tables}
use Rattle.rules.specs.Reach.{count_free}
use Rattle.rules.specs.Calls.{damaged}

pub data Counted : Type 0 where
  counted : ℕ → Counted
  refused : ℕ → Counted

unfoldable pub free_count : Tables → Counted
free_count t =
    if damaged t then refused 1
    else counted (count_free t)
