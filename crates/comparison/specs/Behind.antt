-- The test that the comparison makes twice, with the two claims the other way round the second time.
use Rattle.std.specs.Prelude.{ℕ, Bool, ◌&&◌, ◌||◌}
use Rattle.rules.specs.Notation.{◌≤?◌}

abbrev pub lies_behind : ℕ → ℕ → ℕ → Bool → Bool
lies_behind first end start both_read = end ≤? start || both_read && first ≤? start
