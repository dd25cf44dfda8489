-- Runs of frames as numbers in a lent list: what they cover, and that they stand in order.
use Rattle.std.specs.Prelude.{ℕ, zero, suc, ◌+◌, ◌*◌, ◌/◌, ◌%◌, ◌≤◌, ◌<◌, ◌≡◌, ◌||◌, List, [], ◌∷◌, length, get_or}
use Rattle.rules.specs.Board.{covers, some_covers}
use Rattle.rules.specs.declared.Row.{Row}

-- a run as one number, its first frame above its end: these numbers are in the order of the first frames
abbrev pub run_of : ℕ → ℕ → ℕ
run_of first end = first * 4294967296 + end

abbrev pub first_of : ℕ → ℕ
first_of run = run / 4294967296

abbrev pub end_of : ℕ → ℕ
end_of run = run % 4294967296

-- A run as a row of the board. Whose it is and of which kind is nothing to the frames that it covers
abbrev pub frames : ℕ → ℕ → Row
frames first end = record { seat = 0; first = first; end = end; kind = 0 }

abbrev pub row_of_run : ℕ → Row
row_of_run run = frames (first_of run) (end_of run)

-- the runs at so many places from low on
unfoldable pub rows_in : List ℕ → ℕ → ℕ → List Row
rows_in runs low zero = []
rows_in runs low (suc n) = row_of_run (get_or runs (low + n) 0) ∷ rows_in runs low n

-- The runs stand side by side in 128 places and rise from place to place. They stand around place 64, so that 64 of them have room to
-- whichever side they go.
pub record Ordered (runs : List ℕ) (low count : ℕ) : Type 0 where
  pub places : length runs ≡ 128
  pub from : low ≤ 64
  pub upto : 64 ≤ low + count
  pub few : count ≤ 64
  pub rising : (i j : ℕ) → i ≤ j → j < count → get_or runs (low + i) 0 ≤ get_or runs (low + j) 0

-- what they cover after one more was put among those before
abbrev pub CoversOneMore : List Row → ℕ → ℕ → List Row → Type 0
CoversOneMore before first end after =
    (frame : ℕ) → some_covers after frame ≡ (covers (frames first end) frame || some_covers before frame)
