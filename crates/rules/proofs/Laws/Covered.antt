-- What `covered_by` counts, of any rows and then of the holders of any tables: the frames that some row covers, each once.
use Rattle.std.specs.Prelude.{if◌then◌else◌}
use Prim.Native.Nat.{ℕ, zero, suc, ◌+◌, ◌-◌, ◌*◌, ◌/◌, ◌≤◌, ◌<◌}
use mathlib.Core.Path.{◌≡◌, refl, sym, ap, ◌∙◌}
use mathlib.Core.Bool.{Bool, true, false, ◌||◌, true≢false}
use mathlib.Core.List.{List, [], ◌∷◌, ◌++◌}
use mathlib.Core.Logic.{◌≢◌, inl, inr}
use native.Mathlib.Omega.{arith}
use native.Mathlib.Decide.{dec_le}
use native.Mathlib.Nat.{eq-or-lt_of_le}
use lib.ListN.{length, drop}
use borrow.Author.Tests.{leb-true, ltb-true, le-leb, lt-ltb, eqb-true, eq-eqb}
use Rattle.rules.specs.Notation.{◌is◌, ◌≤?◌, ◌<?◌, count}
use Rattle.rules.specs.Tables.{Tables, seat_count, phase}
use Rattle.rules.specs.Calls.{damaged}
use Rattle.rules.specs.Board.{row_of, rows_below, holders, covers, some_covers, last_end, covered_by, Boarded, filled, refused, Shown, shown, board, row_width, numbers_of, board_numbers}
use Rattle.rules.specs.Apart.{Covers, claim_of_seat, Holds}
use Rattle.rules.specs.Covered.{HolderCovers, added_up}
use Rattle.rules.specs.declared.Row.{Row}
use Rattle.rules.proofs.Ground.Logic.{or_left, or_right, or_case, both, and_both, not_of, clash, branch}
use Rattle.rules.proofs.Ground.Counting.{count_none, count_small, count_wider, count_gap, count_run, count_bounds, count_or, count_apart}

-- ---- one row
pub covers_within : (row : Row) (f : ℕ) → covers row f ≡ true → (row.first ≤ f) × (f < row.end)
covers_within row f e = let w = both (row.first ≤? f) (f <? row.end) e in (leb-true row.first f w.0, ltb-true f row.end w.1)

pub covers_yes : (row : Row) (f : ℕ) → row.first ≤ f → f < row.end → covers row f ≡ true
covers_yes row f h i = and_both (row.first ≤? f) (f <? row.end) (le-leb row.first f h) (lt-ltb f row.end i)

covers_not : (row : Row) (f : ℕ) → (row.first ≤ f → f < row.end → ⊥) → covers row f ≡ false
covers_not row f d = not_of (covers row f) (λ e. let w = covers_within row f e in d w.0 w.1)

-- it covers as many frames as lie from its first to its end
row_alone : (row : Row) (b : ℕ) → row.end ≤ b → count b (covers row) ≡ row.end - row.first
row_alone row b h =
    count_gap row.end b (covers row) h (λ j g i. covers_not row j (λ k l. omega arith)) ∙ (elim (dec_le row.first row.end) [
      | yes w ↦
          let r = count_run row.first row.end (covers row) w (λ j g i. covers_yes row j g i) in
          let z = count_gap 0 row.first (covers row) (omega arith) (λ j g i. covers_not row j (λ k l. omega arith)) in
          let n = count_none (covers row) in
          omega arith
      | no w ↦
          let z = count_gap 0 row.end (covers row) (omega arith) (λ j g i. covers_not row j (λ k l. omega arith)) in
          let n = count_none (covers row) in
          omega arith
    ])

-- ---- rows
some_append : (rows more : List Row) (f : ℕ) → some_covers (rows ++ more) f ≡ (some_covers rows f || some_covers more f)
unfolding some_covers
some_append [] more f = refl
some_append (row ∷ rows) more f = go (covers row f) (some_append rows more f)
  where
    go : (b : Bool) → some_covers (rows ++ more) f ≡ (some_covers rows f || some_covers more f)
        → (b || some_covers (rows ++ more) f) ≡ (b || some_covers rows f || some_covers more f)
    go true e = refl
    go false e = e

pub some_last : (rows : List Row) (row : Row) (f : ℕ) → some_covers (rows ++ (row ∷ [])) f ≡ (covers row f || some_covers rows f)
unfolding some_covers
some_last rows row f = some_append rows (row ∷ []) f ∙ go (some_covers rows f) (covers row f)
  where
    go : (a b : Bool) → (a || (b || false)) ≡ (b || a)
    go true true = refl
    go true false = refl
    go false true = refl
    go false false = refl

-- a frame that is covered lies before the last end
before_last : (rows : List Row) (f : ℕ) → some_covers rows f ≡ true → f < last_end rows
unfolding some_covers last_end
before_last [] f e = absurd (clash false e refl)
before_last (row ∷ rows) f e = elim (or_case (covers row f) (some_covers rows f) e) [
  | inl p ↦ let w = (covers_within row f p).1 in omega arith
  | inr p ↦ let w = before_last rows f p in omega arith
]

none_behind : (rows : List Row) (f : ℕ) → last_end rows ≤ f → some_covers rows f ≡ false
none_behind rows f h = not_of (some_covers rows f) (λ e. let w = before_last rows f e in omega arith)

-- ---- their number: every bound behind which nothing is covered gives it
pub bounded : (rows : List Row) (b : ℕ) → ((f : ℕ) → b ≤ f → some_covers rows f ≡ false) → count b (some_covers rows) ≡ covered_by rows
unfolding covered_by
bounded rows b h = count_bounds b (last_end rows) (some_covers rows) h (none_behind rows)

-- rows that cover no other frames cover no more
pub covered_wider : (rows more : List Row) → ((f : ℕ) → some_covers rows f ≡ true → some_covers more f ≡ true) → covered_by rows ≤ covered_by more
covered_wider rows more h =
    let b = last_end rows + last_end more in
    let r = bounded rows b (λ f i. none_behind rows f (omega arith)) in
    let m = bounded more b (λ f i. none_behind more f (omega arith)) in
    let w = count_wider b (some_covers rows) (some_covers more) h in
    omega arith

-- so what is counted depends on what is covered alone: in what order the rows stand does not matter
pub covered_alike : (rows more : List Row) → ((f : ℕ) → some_covers rows f ≡ some_covers more f) → covered_by rows ≡ covered_by more
covered_alike rows more h =
    let r = covered_wider rows more (λ f e. sym (h f) ∙ e) in
    let m = covered_wider more rows (λ f e. h f ∙ e) in
    omega arith

pub covered_within : (rows : List Row) (b : ℕ) → ((f : ℕ) → b ≤ f → some_covers rows f ≡ false) → covered_by rows ≤ b
covered_within rows b h = let e = bounded rows b h in let s = count_small b (some_covers rows) in omega arith

pub covered_just : (rows : List Row) (b : ℕ) → ((f : ℕ) → f < b → some_covers rows f ≡ true) → ((f : ℕ) → b ≤ f → some_covers rows f ≡ false) → covered_by rows ≡ b
covered_just rows b c h =
    let e = bounded rows b h in
    let r = count_run 0 b (some_covers rows) (omega arith) (λ f g i. c f i) in
    let n = count_none (some_covers rows) in
    omega arith

-- ---- one row more: each counted up to a bound behind all of them
module _ (row : Row) (rows : List Row) where
  bound : ℕ
  bound = row.end + last_end rows

  all_of_them : count bound (some_covers (row ∷ rows)) ≡ covered_by (row ∷ rows)
  unfolding bound last_end
  all_of_them = bounded (row ∷ rows) bound (λ f h. none_behind (row ∷ rows) f (omega arith))

  the_row : count bound (covers row) ≡ row.end - row.first
  unfolding bound
  the_row = row_alone row bound (omega arith)

  the_others : count bound (some_covers rows) ≡ covered_by rows
  unfolding bound
  the_others = bounded rows bound (λ f h. none_behind rows f (omega arith))

  covered_more : covered_by (row ∷ rows) ≤ (row.end - row.first) + covered_by rows
  unfolding some_covers
  covered_more = let a = all_of_them in let r = the_row in let o = the_others in let c = count_or bound (covers row) (some_covers rows) in omega arith

  covered_apart : ((f : ℕ) → covers row f ≡ true → some_covers rows f ≡ true → ⊥) → covered_by (row ∷ rows) ≡ (row.end - row.first) + covered_by rows
  unfolding some_covers
  covered_apart d = let a = all_of_them in let r = the_row in let o = the_others in let c = count_apart bound (covers row) (some_covers rows) d in omega arith

covered_none : covered_by [] ≡ 0
unfolding covered_by last_end
covered_none = count_none (some_covers [])

pub at_most_added_up : (rows : List Row) → covered_by rows ≤ added_up rows
unfolding added_up
at_most_added_up [] = let z = covered_none in omega arith
at_most_added_up (row ∷ rows) = let h = at_most_added_up rows in let m = covered_more row rows in omega arith

added_up_last : (rows : List Row) (row : Row) → added_up (rows ++ (row ∷ [])) ≡ (row.end - row.first) + added_up rows
unfolding added_up
added_up_last [] row = refl
added_up_last (first ∷ rows) row = let h = added_up_last rows row in omega arith

-- a row at the end counts as one in front
covered_last : (rows : List Row) (row : Row) → covered_by (rows ++ (row ∷ [])) ≡ covered_by (row ∷ rows)
unfolding some_covers
covered_last rows row = covered_alike (rows ++ (row ∷ [])) (row ∷ rows) (some_last rows row)

-- ---- the holders of any tables
module _ (t : Tables) where
  row_covers : (s f : ℕ) → covers (row_of t s) f ≡ true → Covers (claim_of_seat t s) f
  row_covers s f e = covers_within (row_of t s) f e

  lt_suc_of_lt : {s n : ℕ} → s < n → s < suc n
  lt_suc_of_lt h = omega arith

  lt_suc : (n : ℕ) → n < suc n
  lt_suc n = omega arith

  below_covers : (n f : ℕ) → some_covers (rows_below n t) f ≡ true → (s : ℕ) × (s < n) × Holds t s × Covers (claim_of_seat t s) f
  unfolding rows_below some_covers
  below_covers zero f e = absurd (clash false e refl)
  below_covers (suc n) f e =
      branch (λ (rows : List Row). some_covers rows f ≡ true → (s : ℕ) × (s < suc n) × Holds t s × Covers (claim_of_seat t s) f)
      (phase t n is 5)
      (λ holds g. elim (or_case (covers (row_of t n) f) (some_covers (rows_below n t) f) (sym (some_last (rows_below n t) (row_of t n) f) ∙ g)) [
        | inl p ↦ (n, lt_suc n, eqb-true (phase t n) 5 holds, row_covers n f p)
        | inr p ↦ let w = below_covers n f p in (w.0, lt_suc_of_lt w.1, w.2, w.3)
      ])
      (λ rests g. let w = below_covers n f g in (w.0, lt_suc_of_lt w.1, w.2, w.3))
      e

  covers_below : (n s f : ℕ) → s < n → Holds t s → Covers (claim_of_seat t s) f → some_covers (rows_below n t) f ≡ true
  unfolding rows_below
  covers_below zero s f h holds c = absurd (omega arith)
  covers_below (suc n) s f h holds c = elim (eq-or-lt_of_le {n = s} {m = n} (omega arith)) [
    | inl z ↦
        rw (← z, eq-eqb (phase t s) 5 holds)
        (some_last (rows_below s t) (row_of t s) f ∙ or_left (covers (row_of t s) f) (some_covers (rows_below s t) f) (covers_yes (row_of t s) f c.0 c.1))
    | inr z ↦
        let before = covers_below n s f z holds c in
        branch (λ (rows : List Row). some_covers rows f ≡ true) (phase t n is 5)
        (λ e. some_last (rows_below n t) (row_of t n) f ∙ or_right (covers (row_of t n) f) (some_covers (rows_below n t) f) before)
        (λ e. before)
  ]

  pub holders_cover : (f : ℕ) → some_covers (holders t) f ≡ true → (s : ℕ) × HolderCovers t s f
  unfolding holders
  holders_cover f e = let w = below_covers (seat_count t) f e in (w.0, (w.1, w.2, w.3))

  pub holder_counts : (s f : ℕ) → HolderCovers t s f → some_covers (holders t) f ≡ true
  unfolding holders
  holder_counts s f h = covers_below (seat_count t) s f h.0 h.1 h.2

  pub none_from : (b : ℕ) → ((s f : ℕ) → HolderCovers t s f → f < b) → (f : ℕ) → b ≤ f → some_covers (holders t) f ≡ false
  none_from b h f i = not_of (some_covers (holders t) f) (λ e. let w = holders_cover f e in let l = h w.0 f w.1 in omega arith)

  -- where no two holders share a frame, each row adds its own
  module _ (d : (i j f : ℕ) → i ≢ j → HolderCovers t i f → HolderCovers t j f → ⊥) where
    below_apart : (n : ℕ) → n ≤ seat_count t → covered_by (rows_below n t) ≡ added_up (rows_below n t)
    unfolding rows_below added_up
    below_apart zero h = covered_none
    below_apart (suc n) h =
        let before = below_apart n (omega arith) in
        branch (λ (rows : List Row). covered_by rows ≡ added_up rows) (phase t n is 5)
        (λ e. let holds : Holds t n = eqb-true (phase t n) 5 e in
        let alone : (f : ℕ) → covers (row_of t n) f ≡ true → some_covers (rows_below n t) f ≡ true → ⊥ =
        λ f c g.
        let w = below_covers n f g in
        let i = w.1 in
        d n w.0 f (λ z. omega arith) (omega arith, holds, row_covers n f c) (omega arith, w.2, w.3) in
        covered_last (rows_below n t) (row_of t n)
        ∙ covered_apart (row_of t n) (rows_below n t) alone
        ∙ ap (λ (k : ℕ). ((row_of t n).end - (row_of t n).first) + k) before
        ∙ sym (added_up_last (rows_below n t) (row_of t n)))
        (λ e. before)

    pub holders_apart : covered_by (holders t) ≡ added_up (holders t)
    unfolding holders
    holders_apart = below_apart (seat_count t) (omega arith)

-- ---- what an accepted board gives
abbrev rows_given : Boarded → ℕ
rows_given (filled rows covered) = rows
rows_given (refused number) = 0

abbrev frames_given : Boarded → ℕ
frames_given (filled rows covered) = covered
frames_given (refused number) = 0

abbrev is_filled : Boarded → Bool
is_filled (filled rows covered) = true
is_filled (refused number) = false

module _ {A : Type 0} (t : Tables) (lent after : List A) (short : Bool) (rows covered : ℕ) where
  -- both boards have one shape
  gives : (damaged : Bool)
      → (if damaged then shown (refused 1) lent else if short then shown (refused 9) lent else shown (filled (length (holders t)) (covered_by (holders t))) after).answer
      ≡ filled rows covered → (rows ≡ length (holders t)) × (covered ≡ covered_by (holders t))
  gives true e = absurd (true≢false (sym (ap is_filled e)))
  gives false e =
      branch (λ (x : Shown A). x.answer ≡ filled rows covered → (rows ≡ length (holders t)) × (covered ≡ covered_by (holders t))) short
      (λ s f. absurd (true≢false (sym (ap is_filled f))))
      (λ s f. (sym (ap rows_given f), sym (ap frames_given f)))
      e

pub board_gives : (t : Tables) (lent : List Row) (rows covered : ℕ) → (board t lent).answer ≡ filled rows covered
    → (rows ≡ length (holders t)) × (covered ≡ covered_by (holders t))
unfolding board
board_gives t lent rows covered =
    gives t lent (holders t ++ drop (length (holders t)) lent) (length lent <? length (holders t)) rows covered (damaged t)

pub numbers_give : (t : Tables) (lent : List ℕ) (rows covered : ℕ) → (board_numbers t lent).answer ≡ filled rows covered
    → (rows ≡ length (holders t)) × (covered ≡ covered_by (holders t))
unfolding board_numbers
numbers_give t lent rows covered =
    gives t lent (numbers_of (holders t) ++ drop (row_width * length (holders t)) lent) (length lent / row_width <? length (holders t)) rows covered (damaged t)
