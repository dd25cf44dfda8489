-- The holders among the first seats. The board's own definitions, rows and covered frames, are those of the rules.
use Rattle.std.specs.Prelude.{ℕ, Bool, List, [], ◌∷◌, if◌then◌else◌}
use Rattle.rules.specs.Notation.{◌is◌, count}
use Rattle.rules.specs.Tables.{Tables, seat_word, phase_at, phase}
use Rattle.rules.specs.Board.{row_of}
use Rattle.rules.specs.declared.Row.{Row}

-- how many of the first n seats hold
unfoldable pub holding : Bool → List ℕ → ℕ → ℕ
holding sheet seats n = count n (λ s. seat_word sheet seats s phase_at is 5)

-- a seat's part of the board
unfoldable pub held_by : Tables → ℕ → List Row
held_by t s =
    if phase t s is 5 then row_of t s ∷ []
    else []
