-- Parts of a run: the test whether the tables are still sound after a step, and the answer if they are not.
use Rattle.std.specs.Prelude.{ℕ, Bool, true, ◌&&◌, ◌||◌, if◌then◌else◌}
use Rattle.rules.specs.Notation.{◌is◌, ◌≤?◌}
use Rattle.rules.specs.Tables.{Tables}
use Rattle.rules.specs.Run.{ran}
use Rattle.rules.specs.Run.{Ran}
use Rattle.shape.specs.Parts.{list_ends}

-- by the seat's phase before and after
abbrev pub kept_sound : Tables → ℕ → ℕ → Bool
kept_sound t before after = if before is 1 && (after is 3 || after is 5) then list_ends t else true

-- after so many steps of so many entries
abbrev pub stop_at_damage : ℕ → ℕ → ℕ → Ran
stop_at_damage steps entries budget = if steps is budget || entries ≤? steps then ran steps 0 else ran steps 1
