-- The board: who holds what.
use Rattle.std.specs.Prelude.{ℕ, zero, suc, ◌*◌, ◌/◌, max, Bool, false, ◌&&◌, ◌||◌, List, [], ◌∷◌, ◌++◌, length, drop, if◌then◌else◌}
use Rattle.rules.specs.Notation.{◌is◌, ◌≤?◌, ◌<?◌, count}
use Rattle.rules.specs.Tables.{Tables, seat_count, start, end, kind, phase, own}
use Rattle.rules.specs.Calls.{damaged}
use Rattle.rules.specs.declared.Row.{Row}

-- "rows, each with seat, first frame, end frame and kind"
abbrev pub row_of : Tables → ℕ → Row
row_of t s = record { seat = s; first = start t (own t s); end = end t (own t s); kind = kind t (own t s) }

-- "one for each seat in phase 5, by rising seat number"
unfoldable pub rows_below : ℕ → Tables → List Row
rows_below zero t = []
rows_below (suc s) t =
    if phase t s is 5 then rows_below s t ++ (row_of t s ∷ [])
    else rows_below s t

unfoldable pub holders : Tables → List Row
holders t = rows_below (seat_count t) t

-- "A claim covers frames start up to but not including end"
abbrev pub covers : Row → ℕ → Bool
covers row frame = row.first ≤? frame && frame <? row.end

-- at least one of the rows covers the frame
unfoldable pub some_covers : List Row → ℕ → Bool
some_covers [] frame = false
some_covers (row ∷ rows) frame = covers row frame || some_covers rows frame

-- from here on no row covers a frame
unfoldable pub last_end : List Row → ℕ
last_end [] = 0
last_end (row ∷ rows) = max row.end (last_end rows)

-- 02 (i): "the number of frames that at least one holder covers". Frames from the last end on are not looked at: proofs/Covered.antt says
-- that every bound from there on gives the same number
unfoldable pub covered_by : List Row → ℕ
covered_by rows = count (last_end rows) (some_covers rows)

-- "It returns the row count and covered frames"
pub data Boarded : Type 0 where
  filled : ℕ → ℕ → Boarded
  refused : ℕ → Boarded

-- an answer, and the board after the call
pub record Shown (A : Type 0) : Type 0 where
  pub answer : Boarded
  pub board : List A

abbrev pub shown : {A : Type 0} → Boarded → List A → Shown A
shown answer board = record { answer = answer; board = board }

-- "Later rows stay."
unfoldable pub board : Tables → List Row → Shown Row
board t lent =
    if damaged t then shown (refused 1) lent
    else if length lent <? length (holders t) then shown (refused 9) lent
    else shown (filled (length (holders t)) (covered_by (holders t))) (holders t ++ drop (length (holders t)) lent)

-- ---- the same on a lent list of numbers, four to a row: proofs/Laws/BoardNumbers says that it is the board on those rows
abbrev pub row_width : ℕ
row_width = 4

unfoldable pub numbers_of : List Row → List ℕ
numbers_of [] = []
numbers_of (row ∷ rows) = row.seat ∷ row.first ∷ row.end ∷ row.kind ∷ numbers_of rows

unfoldable pub board_numbers : Tables → List ℕ → Shown ℕ
board_numbers t lent =
    if damaged t then shown (refused 1) lent
    else if length lent / row_width <? length (holders t) then shown (refused 9) lent
    else shown (filled (length (holders t)) (covered_by (holders t))) (numbers_of (holders t) ++ drop (row_width * length (holders t)) lent)
