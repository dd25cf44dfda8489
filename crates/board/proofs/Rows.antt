-- The rows as they are written one by one: what is written so far, followed by what was lent, is the board so far.
use Prim.Native.Nat.{ℕ, ◌+◌, ◌*◌, ◌/◌, ◌≤◌, ◌<◌}
use mathlib.Core.Path.{◌≡◌, refl, sym, ◌∙◌}
use mathlib.Core.Bool.{Bool, true, false}
use mathlib.Core.List.{List, [], ◌∷◌, ◌++◌}
use native.Mathlib.Omega.{arith}
use lib.Dec.{leb}
use lib.ListN.{length, drop}
use borrow.Author.Tests.{lt-ltb, le-ltb, le-leb, leb-true, leb-false}
use Rattle.std.proofs.lemmas.List.{take_at}
use Rattle.std.proofs.lemmas.Slice.{drop-append-drop}
use Rattle.rules.specs.Notation.{◌is◌, ◌≤?◌}
use Rattle.rules.specs.Tables.{Tables, seat_count, phase}
use Rattle.rules.specs.Shape.{sound}
use Rattle.rules.specs.Board.{row_of, rows_below, holders, covered_by, numbers_of, row_width, Boarded, shown, board_numbers}
use Rattle.rules.specs.declared.Row.{Row}
use Rattle.rules.proofs.Laws.BoardNumbers.{numbers_append, numbers_length}
use Rattle.holders.proofs.Rows.{rows_more, rows_same, one_row_more, row_of_holders, rows_at_most, rows_all}
use Rattle.board.specs.Filling.{put_row}

-- ---- room for every row
pub room_for_each : (t : Tables) (n room : ℕ) → n ≡ seat_count t → n ≤ room → leb n room ≡ (length (holders t) ≤? room)
unfolding holders
room_for_each t n room e h = let few = rows_at_most t (seat_count t) in le-leb n room h ∙ sym (le-leb (length (rows_below (seat_count t) t)) room (omega arith))

-- ---- a row behind what is written
put_row_behind : (x l : List ℕ) (k : ℕ) (row : Row) → length x ≡ k → put_row (x ++ drop k l) k row ≡ (x ++ numbers_of (row ∷ [])) ++ drop (k + row_width) l
unfolding put_row
put_row_behind x l k row p = rw (take_at x (drop k l) k p, drop-append-drop k l x (k + row_width) (omega arith) p)

-- ---- from seat to seat
pub record Filling (t : Tables) (lent out : List ℕ) (rows s : ℕ) : Type 0 where
  pub counted : rows ≡ length (rows_below s t)
  pub few : rows ≤ s
  pub numbers : out ≡ numbers_of (rows_below s t) ++ drop (row_width * length (rows_below s t)) lent

pub filling_none : (t : Tables) (lent : List ℕ) → Filling t lent lent 0 0
unfolding rows_below numbers_of
filling_none t lent = record { counted = refl; few = omega arith; numbers = refl }

module _ (t : Tables) (lent out : List ℕ) (rows s : ℕ) (f : Filling t lent out rows s) where
  module _ (b : Bool) (is_held : b ≡ (phase t s is 5)) where
    -- what has room for all rows has room for one more
    pub row_fits : b ≡ true → (n : ℕ) → n ≡ seat_count t → s < n → row_width * length (holders t) ≤ length lent → length out ≡ length lent
        → row_width * rows + row_width ≤ length out
    row_fits e n is_count h room same = let k = row_of_holders t s b is_held e rows f.counted n is_count h in omega arith

    pub filling_more : b ≡ true → (row : Row) → row ≡ row_of t s → (out' : List ℕ) → out' ≡ put_row out (row_width * rows) row
        → Filling t lent out' (rows + 1) (s + 1)
    filling_more e row is_row out' put =
        let more = rows_more t s b is_held e in
        let z : row_width * length (rows_below s t) + row_width ≡ row_width * length (rows_below (s + 1) t) =
        let k = one_row_more t s b is_held e rows f.counted in let c = f.counted in omega arith in
        record {
          counted = sym (one_row_more t s b is_held e rows f.counted);
          few = let k = f.few in omega arith;
          numbers =
              let w = put_row_behind (numbers_of (rows_below s t)) lent (row_width * length (rows_below s t)) (row_of t s) (numbers_length (rows_below s t)) in
              rw (put, f.numbers, f.counted, is_row, w, z, more, numbers_append (rows_below s t) (row_of t s ∷ []));
        }

    pub filling_same : b ≡ false → Filling t lent out rows (s + 1)
    filling_same e = record {
      counted = rw (rows_same t s b is_held e) f.counted;
      few = let k = f.few in omega arith;
      numbers = rw (rows_same t s b is_held e) f.numbers;
    }

  module _ (n : ℕ) (is_count : n ≡ seat_count t) (h : s ≤ n) (i : n ≤ s) where
    pub filling_counted : rows ≡ length (holders t)
    filling_counted = rw (← rows_all t s n is_count h i) f.counted

    pub filling_all : out ≡ numbers_of (holders t) ++ drop (row_width * length (holders t)) lent
    filling_all = rw (← rows_all t s n is_count h i) f.numbers

-- ---- the call
module _ (t : Tables) (l : List ℕ) where
  pub shown_damaged : sound t ≡ false → shown (Boarded.refused 1) l ≡ board_numbers t l
  unfolding board_numbers
  shown_damaged e = rw e

  module _ (is_sound_here : sound t ≡ true) (b : Bool) (is_room : b ≡ (length (holders t) ≤? (length l / row_width))) where
    pub too_short : b ≡ false → shown (Boarded.refused 9) l ≡ board_numbers t l
    unfolding board_numbers
    too_short e = rw (is_sound_here, lt-ltb (length l / row_width) (length (holders t)) (leb-false (length (holders t)) (length l / row_width) (sym is_room ∙ e)))

    pub holders_shown : b ≡ true → (rows : ℕ) → rows ≡ length (holders t) → (l' : List ℕ) → l' ≡ numbers_of (holders t) ++ drop (row_width * length (holders t)) l
        → (covered : ℕ) → covered ≡ covered_by (holders t) → shown (Boarded.filled rows covered) l' ≡ board_numbers t l
    unfolding board_numbers
    holders_shown e rows is_rows l' is_board covered is_sum =
        rw (is_sound_here, is_rows, is_board, is_sum, le-ltb (length l / row_width) (length (holders t)) (leb-true (length (holders t)) (length l / row_width) (sym is_room ∙ e)))
