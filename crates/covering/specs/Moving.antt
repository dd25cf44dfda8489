-- How a place is made for a run: the runs in its way move by one place each, on one side or on the other.
use Rattle.std.specs.Prelude.{ℕ, suc, ◌+◌, ◌-◌, ◌≤◌, ◌<◌, ◌≡◌, List, ◌≢◌, length, get_or}

-- A way through the places: upwards from the one before low, which is open, or downwards from high, which is.
abbrev pub up_from : ℕ → ℕ → ℕ
up_from low j = low - 1 + j

abbrev pub down_from : ℕ → ℕ → ℕ
down_from high j = high - j

-- In the way of a run are those that are lower where it comes from below, and those that are higher where it comes from above.
abbrev pub Lower : ℕ → ℕ → Type 0
Lower run other = other < run

abbrev pub Higher : ℕ → ℕ → Type 0
Higher run other = run < other

-- The way ends: it comes to one that is not in the way, through places that differ and are there.
pub record Ends (place : ℕ → ℕ) (InWay : ℕ → Type 0) (runs : List ℕ) : Type 0 where
  pub at : ℕ
  pub not_in_way : InWay (get_or runs (place (suc at)) 0) → ⊥
  pub differ : (i j : ℕ) → i ≤ suc at → j ≤ suc at → place i ≡ place j → i ≡ j
  pub there : (j : ℕ) → j ≤ suc at → place j < 128

-- So many along the way, all of them in it, have moved back to the place before. That leaves `place moved` open, and every place off this
-- part of the way as it was.
pub record Moved (place : ℕ → ℕ) (InWay : ℕ → Type 0) (before : List ℕ) (moved : ℕ) (after : List ℕ) : Type 0 where
  pub same_length : length after ≡ length before
  pub in_way : (j : ℕ) → j < moved → InWay (get_or before (place (suc j)) 0)
  pub back : (j : ℕ) → j < moved → get_or after (place j) 0 ≡ get_or before (place (suc j)) 0
  pub rest : (i : ℕ) → ((j : ℕ) → j ≤ moved → i ≢ place j) → get_or after i 0 ≡ get_or before i 0

-- The run stands in the open place, next to one that is not in its way.
pub record Put (place : ℕ → ℕ) (InWay : ℕ → Type 0) (before : List ℕ) (run : ℕ) (after : List ℕ) : Type 0 where
  pub moved : ℕ
  pub way : Moved place InWay before moved after
  pub put : get_or after (place moved) 0 ≡ run
  pub next_to : InWay (get_or before (place (suc moved)) 0) → ⊥
