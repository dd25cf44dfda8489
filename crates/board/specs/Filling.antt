-- How a row is written on the board of numbers.
use Rattle.std.specs.Prelude.{ℕ, ◌+◌, List, [], ◌∷◌, ◌++◌, take, drop}
use Rattle.rules.specs.Board.{numbers_of, row_width}
use Rattle.rules.specs.declared.Row.{Row}

-- the four numbers of a row from a place on
unfoldable pub put_row : List ℕ → ℕ → Row → List ℕ
put_row l at row = take at l ++ numbers_of (row ∷ []) ++ drop (at + row_width) l
