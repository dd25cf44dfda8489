-- The rows of the first seats, seat by seat: what one seat more adds to them and to their number.
use Rattle.std.specs.Prelude.{if◌then◌else◌}
use Prim.Native.Nat.{ℕ, zero, suc, ◌+◌, ◌-◌, ◌≤◌, ◌<◌}
use native.Mathlib.Omega.{arith}
use native.Mathlib.Numerals.{add-one}
use mathlib.Core.Bool.{Bool, true, false}
use mathlib.Core.List.{List, [], ◌∷◌, ◌++◌, append-nil}
use mathlib.Core.Path.{◌≡◌, refl, sym, ap, ◌∙◌}
use lib.ListN.{length, length-append}
use Rattle.rules.specs.Notation.{◌is◌, count}
use Rattle.rules.specs.Tables.{Tables, seat_word, seat_count_of, seat_count, phase_at, phase}
use Rattle.rules.specs.Board.{row_of, rows_below, holders}
use Rattle.holders.specs.Holding.{holding, held_by}

-- ---- a seat's part of the board
module _ (t : Tables) (s : ℕ) (b : Bool) (is_held : b ≡ (phase t s is 5)) where
  pub held_none : b ≡ false → held_by t s ≡ []
  unfolding held_by
  held_none e = rw (sym is_held ∙ e)

  pub held_one : b ≡ true → held_by t s ≡ row_of t s ∷ []
  unfolding held_by
  held_one e = rw (sym is_held ∙ e)

-- ---- one seat more
rows_by : (t : Tables) (s : ℕ) (b : Bool) → (if b then rows_below s t ++ (row_of t s ∷ []) else rows_below s t) ≡ rows_below s t ++ (if b then row_of t s ∷ [] else [])
rows_by t s true = refl
rows_by t s false = sym (append-nil (rows_below s t))

pub rows_again : (t : Tables) (s : ℕ) → rows_below (s + 1) t ≡ rows_below s t ++ held_by t s
unfolding rows_below held_by
rows_again t s = rw (add-one s) (rows_by t s (phase t s is 5))

pub rows_upto : (t : Tables) (s n : ℕ) → s ≤ n → length (rows_below s t) ≤ length (rows_below n t)
rows_upto t s n h = let e : s + (n - s) ≡ n = omega arith in rw e at (rise (n - s))
  where
    rise : (k : ℕ) → length (rows_below s t) ≤ length (rows_below (s + k) t)
    rise zero = let e : s + 0 ≡ s = omega arith in rw e (omega arith)
    rise (suc k) =
        let e : s + suc k ≡ s + k + 1 = omega arith in
        let h = rise k in
        let l = ap length (rows_again t (s + k)) ∙ length-append (rows_below (s + k) t) (held_by t (s + k)) in
        rw e (omega arith)

module _ (t : Tables) (s : ℕ) (b : Bool) (is_held : b ≡ (phase t s is 5)) where
  pub rows_more : b ≡ true → rows_below (s + 1) t ≡ rows_below s t ++ (row_of t s ∷ [])
  rows_more e = rows_again t s ∙ rw (held_one t s b is_held e)

  pub rows_same : b ≡ false → rows_below (s + 1) t ≡ rows_below s t
  rows_same e = rows_again t s ∙ rw (held_none t s b is_held e) (append-nil (rows_below s t))

  -- how many rows there are then; and the row written next is one of the holders'
  module _ (held : b ≡ true) (at : ℕ) (is_count : at ≡ length (rows_below s t)) where
    pub one_row_more : length (rows_below (s + 1) t) ≡ at + 1
    one_row_more = rw (rows_more held) (let k = length-append (rows_below s t) (row_of t s ∷ []) in omega arith)

    pub row_of_holders : (n : ℕ) → n ≡ seat_count t → s < n → at < length (holders t)
    unfolding holders
    row_of_holders n e h = let k = one_row_more in let u = rows_upto t (s + 1) (seat_count t) (omega arith) in omega arith

-- after the last seat
pub rows_all : (t : Tables) (s n : ℕ) → n ≡ seat_count t → s ≤ n → n ≤ s → rows_below s t ≡ holders t
unfolding holders
rows_all t s n e h i = let k : s ≡ seat_count t = omega arith in rw k

-- ---- their number
pub rows_at_most : (t : Tables) (n : ℕ) → length (rows_below n t) ≤ n
unfolding rows_below
rows_at_most t zero = omega arith
rows_at_most t (suc n) = go (phase t n is 5) (rows_at_most t n)
  where
    go : (b : Bool) → length (rows_below n t) ≤ n → length (if b then rows_below n t ++ (row_of t n ∷ []) else rows_below n t) ≤ suc n
    go true h = simp length-append (omega arith)
    go false h = omega arith

pub rows_counted : (t : Tables) (n : ℕ) → length (rows_below n t) ≡ holding t.sheet t.seats n
unfolding rows_below holding count
rows_counted t zero = refl
rows_counted t (suc n) = go (phase t n is 5) (rows_counted t n)
  where
    go : (b : Bool) → length (rows_below n t) ≡ holding t.sheet t.seats n
        → length (if b then rows_below n t ++ (row_of t n ∷ []) else rows_below n t) ≡ holding t.sheet t.seats n + (if b then 1 else 0)
    go true h = length-append (rows_below n t) (row_of t n ∷ []) ∙ rw h
    go false h = h ∙ omega arith

-- all seats that hold are the holders
pub holders_counted : (t : Tables) (k : ℕ) → k ≡ holding t.sheet t.seats (seat_count t) → k ≡ length (holders t)
unfolding holders
holders_counted t k e = e ∙ sym (rows_counted t (seat_count t))

-- ---- `count`, seat by seat
module _ (sheet : Bool) (seats : List ℕ) (s found : ℕ) (sofar : found ≡ holding sheet seats s) (b : Bool) (is_held : b ≡ (seat_word sheet seats s phase_at is 5)) where
  pub holding_more : b ≡ true → found + 1 ≡ holding sheet seats (s + 1)
  unfolding holding count
  holding_more e = rw (add-one s, sym is_held ∙ e) (ap (λ (m : ℕ). m + 1) sofar)

  pub holding_same : b ≡ false → found ≡ holding sheet seats (s + 1)
  unfolding holding count
  holding_same e = rw (add-one s, sym is_held ∙ e) (sofar ∙ omega arith)

-- ---- `number`: of the whole table, whose profile is known by its type
pub all_seats : (t : Tables) (sheet : Bool) (seats : List ℕ) (n : ℕ) → seats ≡ t.seats → t.sheet ≡ sheet → n ≡ seat_count t → n ≤ seat_count_of sheet seats
all_seats t sheet seats n p q e = rw (p, ← q, ← e) (omega arith)

pub all_counted : (t : Tables) (sheet : Bool) (seats : List ℕ) (n k : ℕ) → seats ≡ t.seats → t.sheet ≡ sheet → n ≡ seat_count t → k ≡ holding sheet seats n → k ≡ holding t.sheet t.seats (seat_count t)
all_counted t sheet seats n k p q e w = w ∙ rw (p, ← q, e)
