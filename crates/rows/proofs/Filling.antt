-- The rows as they are written one by one: what is written so far, followed by what was lent, is the board so far.
use Prim.Native.Nat.{ℕ, ◌+◌, ◌≤◌, ◌<◌}
use mathlib.Core.Path.{◌≡◌, refl, sym}
use mathlib.Core.Bool.{Bool, true, false}
use mathlib.Core.List.{List, [], ◌∷◌, ◌++◌, append_assoc}
use native.Mathlib.Omega.{arith}
use native.Mathlib.Numerals.{add-one}
use lib.Seq.{drop-cons, set-append_seam}
use lib.ListN.{length, drop, set, length-append}
use borrow.Author.Tests.{lt-ltb, le-ltb}
use Rattle.rules.specs.Notation.{◌is◌}
use Rattle.rules.specs.Tables.{Tables, seat_count, phase}
use Rattle.rules.specs.Shape.{sound}
use Rattle.rules.specs.Board.{row_of, rows_below, holders, covered_by, Boarded, shown, board}
use Rattle.rules.specs.declared.Row.{Row}
use Rattle.holders.specs.Holding.{holding}
use Rattle.holders.proofs.Rows.{rows_more, rows_same, one_row_more, row_of_holders, rows_all, holders_counted}

-- ---- a row behind what is written
row_behind : (x lent : List Row) (row : Row) → length x < length lent → set (x ++ drop (length x) lent) (length x) row ≡ (x ++ (row ∷ [])) ++ drop (length (x ++ (row ∷ []))) lent
row_behind x lent row h = rw (drop-cons lent (length x) row h, set-append_seam, length-append, add-one, append_assoc)

-- ---- from seat to seat: the rows of the first s seats stand first, and behind them what was lent
unfoldable pub Filling : Tables → List Row → List Row → ℕ → ℕ → Type 0
Filling t lent out at s = (at ≡ length (rows_below s t)) × (out ≡ rows_below s t ++ drop (length (rows_below s t)) lent)

pub filling_none : (t : Tables) (lent : List Row) → Filling t lent lent 0 0
unfolding Filling rows_below
filling_none t lent = (refl, refl)

module _ (t : Tables) (lent out : List Row) (at s : ℕ) (f : Filling t lent out at s) where
  module _ (b : Bool) (is_held : b ≡ (phase t s is 5)) where
    -- what has room for all rows has room for one more
    pub row_fits : b ≡ true → (n : ℕ) → n ≡ seat_count t → s < n → length (holders t) ≤ length lent → at < length lent
    unfolding Filling
    row_fits e n is_count h room = let k = row_of_holders t s b is_held e at f.0 n is_count h in omega arith

    pub filling_more : b ≡ true → (row : Row) → row ≡ row_of t s → at < length lent → Filling t lent (set out at row) (at + 1) (s + 1)
    unfolding Filling
    filling_more e row is_row h =
        let c = f.0 in
        (sym (one_row_more t s b is_held e at f.0), rw (f.1, c, is_row, rows_more t s b is_held e) (row_behind (rows_below s t) lent (row_of t s) (omega arith)))

    pub filling_same : b ≡ false → Filling t lent out at (s + 1)
    unfolding Filling
    filling_same e = rw (rows_same t s b is_held e) f

  pub filling_all : (n : ℕ) → n ≡ seat_count t → s ≤ n → n ≤ s → out ≡ holders t ++ drop (length (holders t)) lent
  unfolding Filling
  filling_all n is_count h i = rw (← rows_all t s n is_count h i) f.1

-- ---- the call
module _ (t : Tables) (lent : List Row) where
  pub shown_damaged : sound t ≡ false → shown (Boarded.refused 1) lent ≡ board t lent
  unfolding board
  shown_damaged e = rw e

  module _ (is_sound_here : sound t ≡ true) (k : ℕ) (is_holding : k ≡ holding t.sheet t.seats (seat_count t)) where
    pub long_enough : k ≤ length lent → length (holders t) ≤ length lent
    long_enough h = rw (← holders_counted t k is_holding) h

    pub too_short : length lent < k → shown (Boarded.refused 9) lent ≡ board t lent
    unfolding board
    too_short h = rw (is_sound_here, ← holders_counted t k is_holding, lt-ltb (length lent) k h)

    pub holders_shown : k ≤ length lent → (rows : List Row) → rows ≡ holders t ++ drop (length (holders t)) lent → (covered : ℕ) → covered ≡ covered_by (holders t)
        → shown (Boarded.filled k covered) rows ≡ board t lent
    unfolding board
    holders_shown h rows is_board covered is_sum = rw (is_sound_here, is_board, is_sum, ← holders_counted t k is_holding, le-ltb (length lent) k h)
