-- The board on numbers is the board on rows. Any lent list of numbers is so many whole rows and fewer than four numbers behind them; the
-- board on it answers as the board on those rows does, leaves the numbers of the rows that that leaves, and the numbers behind stay.
use Prim.Native.Nat.{ℕ, zero, suc, ◌*◌, ◌/◌, ◌≤◌, ◌<◌}
use mathlib.Core.Path.{◌≡◌, refl, sym, ap, ◌∙◌}
use mathlib.Core.Bool.{Bool, true, false}
use mathlib.Core.List.{List, [], ◌∷◌, ◌++◌, append_assoc}
use native.Mathlib.Omega.{arith}
use lib.Dec.{ltb}
use lib.ListN.{length, drop, length-append}
use borrow.Author.Tests.{ltb-false}
use Rattle.rules.specs.Tables.{Tables}
use Rattle.rules.specs.Shape.{sound}
use Rattle.rules.specs.Board.{holders, covered_by, Boarded, shown, board, row_width, numbers_of, board_numbers}
use Rattle.rules.specs.declared.Row.{Row}

-- ---- numbers of rows
pub numbers_append : (rows more : List Row) → numbers_of (rows ++ more) ≡ numbers_of rows ++ numbers_of more
unfolding numbers_of
numbers_append [] more = refl
numbers_append (r ∷ rows) more = ap (λ (l : List ℕ). r.seat ∷ r.first ∷ r.end ∷ r.kind ∷ l) (numbers_append rows more)

pub numbers_length : (rows : List Row) → length (numbers_of rows) ≡ row_width * length rows
unfolding numbers_of
numbers_length [] = refl
numbers_length (r ∷ rows) = let h = numbers_length rows in omega arith

numbers_drop : (k : ℕ) (rows : List Row) (behind : List ℕ) → k ≤ length rows → drop (row_width * k) (numbers_of rows ++ behind) ≡ numbers_of (drop k rows) ++ behind
unfolding numbers_of
numbers_drop zero rows behind h = refl
numbers_drop (suc k) [] behind h = absurd (omega arith)
numbers_drop (suc k) (r ∷ rows) behind h =
    let e : row_width * suc k ≡ suc (suc (suc (suc (row_width * k)))) = omega arith in
    rw e (numbers_drop k rows behind (omega arith))

-- ---- the same rule
module _ (t : Tables) (lent : List Row) (behind : List ℕ) (few : length behind < row_width) where
  room_in_rows : length (numbers_of lent ++ behind) / row_width ≡ length lent
  room_in_rows = let k = length-append (numbers_of lent) behind in let n = numbers_length lent in omega arith

  rows_then_behind : length (holders t) ≤ length lent
      → numbers_of (holders t) ++ drop (row_width * length (holders t)) (numbers_of lent ++ behind) ≡ numbers_of (holders t ++ drop (length (holders t)) lent) ++ behind
  rows_then_behind h =
      rw (numbers_drop (length (holders t)) lent behind h, numbers_append (holders t) (drop (length (holders t)) lent))
      (sym (append_assoc (numbers_of (holders t)) (numbers_of (drop (length (holders t)) lent)) behind))

  pub board_in_numbers : board_numbers t (numbers_of lent ++ behind) ≡ shown (board t lent).answer (numbers_of (board t lent).board ++ behind)
  unfolding board board_numbers
  board_in_numbers = go (sound t) (ltb (length lent) (length (holders t))) refl refl
    where
      go : (b c : Bool) → sound t ≡ b → ltb (length lent) (length (holders t)) ≡ c
          → board_numbers t (numbers_of lent ++ behind) ≡ shown (board t lent).answer (numbers_of (board t lent).board ++ behind)
      go false c p e = rw p
      go true true p e = rw (p, room_in_rows, e)
      go true false p e =
          rw (p, room_in_rows, e)
          (ap (shown (Boarded.filled (length (holders t)) (covered_by (holders t)))) (rows_then_behind (ltb-false (length lent) (length (holders t)) e)))

-- ---- any lent list of numbers
pub record InRows (lent : List ℕ) : Type 0 where
  pub rows : List Row
  pub behind : List ℕ
  pub few : length behind < row_width
  pub is : lent ≡ numbers_of rows ++ behind

pub in_rows : (lent : List ℕ) → InRows lent
unfolding numbers_of
in_rows [] = record { rows = []; behind = []; few = omega arith; is = refl }
in_rows (a ∷ []) = record { rows = []; behind = a ∷ []; few = omega arith; is = refl }
in_rows (a ∷ b ∷ []) = record { rows = []; behind = a ∷ b ∷ []; few = omega arith; is = refl }
in_rows (a ∷ b ∷ c ∷ []) = record { rows = []; behind = a ∷ b ∷ c ∷ []; few = omega arith; is = refl }
in_rows (a ∷ b ∷ c ∷ d ∷ lent) =
    let more = in_rows lent in
    record {
      rows = record { seat = a; first = b; end = c; kind = d } ∷ more.rows;
      behind = more.behind;
      few = more.few;
      is = ap (λ (l : List ℕ). a ∷ b ∷ c ∷ d ∷ l) more.is;
    }

pub numbers_are_rows : (t : Tables) (lent : List ℕ)
    → board_numbers t lent ≡ shown (board t (in_rows lent).rows).answer (numbers_of (board t (in_rows lent).rows).board ++ (in_rows lent).behind)
numbers_are_rows t lent = let w = in_rows lent in ap (board_numbers t) w.is ∙ board_in_numbers t w.rows w.behind w.few
