-- The words in which it is said what covered frames are. proofs/Covered.antt says with them that each frame is counted once.
use Rattle.std.specs.Prelude.{ℕ, ◌+◌, ◌-◌, ◌≤◌, ◌<◌, List, [], ◌∷◌, get_or}
use Rattle.rules.specs.Tables.{Tables, seat_count}
use Rattle.rules.specs.Apart.{Covers, claim_of_seat, Holds}
use Rattle.rules.specs.declared.Row.{Row}

-- the seat holds, and its claim covers the frame
abbrev pub HolderCovers : Tables → ℕ → ℕ → Type 0
HolderCovers t s frame = (s < seat_count t) × Holds t s × Covers (claim_of_seat t s) frame

-- what 01 had for covered: "the sum of end − start over the rows"
unfoldable pub added_up : List Row → ℕ
added_up [] = 0
added_up (row ∷ rows) = (row.end - row.first) + added_up rows

-- no number of the list needs more than 32 bits
abbrev pub In32Bits : List ℕ → Type 0
In32Bits words = (i : ℕ) → get_or words i 0 ≤ 4294967295
