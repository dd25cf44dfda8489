-- A run that was put in its place: whichever side made room, those that are not higher stand before it and those that are not lower behind
-- it, in the order that they had. So the runs are in order again, and cover what they covered and the run's own frames.
use Prim.Native.Nat.{ℕ, zero, suc, ◌+◌, ◌-◌, ◌/◌, ◌≤◌, ◌<◌}
use mathlib.Core.Path.{◌≡◌, refl, sym, ap, ◌∙◌}
use mathlib.Core.Bool.{true, false, ◌||◌}
use mathlib.Core.List.{List}
use mathlib.Core.Logic.{◌≢◌, inl, inr}
use native.Mathlib.Omega.{arith}
use native.Mathlib.Decide.{ℕ_discrete, dec_lt}
use lib.ListN.{get_or, set, length, length-set}
use lib.Seq.{get_or-set_same}
use Rattle.rules.specs.Board.{covers, some_covers}
use Rattle.rules.specs.declared.Row.{Row}
use Rattle.rules.proofs.Ground.Logic.{same, clash, or_case, or_left, or_right}
use Rattle.covering.specs.Runs.{run_of, first_of, end_of, row_of_run, rows_in, Ordered, CoversOneMore}
use Rattle.covering.specs.Moving.{up_from, down_from, Lower, Higher, Ends, Put}

-- ---- the rows of the runs in the places
pub rows_length : (runs : List ℕ) (low n : ℕ) → length (rows_in runs low n) ≡ n
unfolding rows_in
rows_length runs low zero = refl
rows_length runs low (suc n) = ap suc (rows_length runs low n)

-- where fewer than 64 rows are seen, there are fewer than 64 runs
pub room : (runs : List ℕ) (low count : ℕ) (rows : List Row) → rows_in runs low count ≡ rows → length rows < 64 → count < 64
room runs low count rows e h = rw (← e, rows_length) at h

-- some run of those in the places covers a frame
pub rows_cover : (runs : List ℕ) (low n f : ℕ) → some_covers (rows_in runs low n) f ≡ true
    → (j : ℕ) × (j < n) × (covers (row_of_run (get_or runs (low + j) 0)) f ≡ true)
unfolding rows_in some_covers
rows_cover runs low zero f e = absurd (clash false e refl)
rows_cover runs low (suc n) f e = elim (or_case (covers (row_of_run (get_or runs (low + n) 0)) f) (some_covers (rows_in runs low n) f) e) [
  | inl p ↦ (n, omega arith, p)
  | inr p ↦ let w = rows_cover runs low n f p in (w.0, (let i = w.1 in omega arith), w.2)
]

pub cover_rows : (runs : List ℕ) (low n f j : ℕ) → j < n → covers (row_of_run (get_or runs (low + j) 0)) f ≡ true → some_covers (rows_in runs low n) f ≡ true
unfolding rows_in some_covers
cover_rows runs low zero f j h e = absurd (omega arith)
cover_rows runs low (suc n) f j h e = elim (ℕ_discrete j n) [
  | yes z ↦ or_left (covers (row_of_run (get_or runs (low + n) 0)) f) (some_covers (rows_in runs low n) f) (ap (λ (i : ℕ). covers (row_of_run (get_or runs (low + i) 0)) f) (sym z) ∙ e)
  | no z ↦ or_right (covers (row_of_run (get_or runs (low + n) 0)) f) (some_covers (rows_in runs low n) f) (cover_rows runs low n f j (omega arith) e)
]

-- ---- what is promised of one run more
pub record OneMore (before : List ℕ) (low count first end : ℕ) (after : List ℕ) (start held : ℕ) : Type 0 where
  pub ordered : Ordered after start (held + 1)
  pub counted : length (rows_in after start (held + 1)) ≡ length (rows_in before low count) + 1
  pub covers : CoversOneMore (rows_in before low count) first end (rows_in after start (held + 1))

-- ---- a run in its place: the `rank`-th of them
record Placed (before : List ℕ) (low count run : ℕ) (after : List ℕ) (start : ℕ) : Type 0 where
  rank : ℕ
  is_rank : rank ≤ count
  lower : (j : ℕ) → j < rank → get_or after (start + j) 0 ≡ get_or before (low + j) 0
  here : get_or after (start + rank) 0 ≡ run
  higher : (j : ℕ) → rank ≤ j → j < count → get_or after (start + suc j) 0 ≡ get_or before (low + j) 0
  not_above : (j : ℕ) → j < rank → get_or before (low + j) 0 ≤ run
  not_below : (j : ℕ) → rank ≤ j → j < count → run ≤ get_or before (low + j) 0

-- whence the one that now stands j-th
data Whence (before : List ℕ) (low count run : ℕ) (after : List ℕ) (start rank j : ℕ) : Type 0 where
  one_before : j < rank → get_or after (start + j) 0 ≡ get_or before (low + j) 0 → Whence before low count run after start rank j
  itself : j ≡ rank → get_or after (start + j) 0 ≡ run → Whence before low count run after start rank j
  one_behind : (i : ℕ) → j ≡ suc i → rank ≤ i → i < count → get_or after (start + j) 0 ≡ get_or before (low + i) 0 → Whence before low count run after start rank j

module _ (before : List ℕ) (low count run : ℕ) (after : List ℕ) (start : ℕ) (p : Placed before low count run after start) where
  whence : (j : ℕ) → j < count + 1 → Whence before low count run after start p.rank j
  whence j h = elim (dec_lt j p.rank) [
    | yes a ↦ one_before a (p.lower j a)
    | no a ↦ elim (ℕ_discrete j p.rank) [
      | yes e ↦ itself e (rw e p.here)
      | no d ↦
          let e : j ≡ suc (j - 1) = omega arith in
          one_behind (j - 1) e (omega arith) (omega arith) (ap (λ (k : ℕ). get_or after (start + k) 0) e ∙ p.higher (j - 1) (omega arith) (omega arith))
    ]
  ]

  placed_rising : ((i j : ℕ) → i ≤ j → j < count → get_or before (low + i) 0 ≤ get_or before (low + j) 0)
      → (i j : ℕ) → i ≤ j → j < count + 1 → get_or after (start + i) 0 ≤ get_or after (start + j) 0
  placed_rising rising i j h k = go (whence i (omega arith)) (whence j k)
    where
      From : ℕ → Type 0
      From = Whence before low count run after start p.rank

      go : From i → From j → get_or after (start + i) 0 ≤ get_or after (start + j) 0
      go (one_before a e) (one_before b f) = let r = p.is_rank in rw (e, f) (rising i j h (omega arith))
      go (one_before a e) (itself b f) = rw (e, f) (p.not_above i a)
      go (one_before a e) (one_behind n z b c f) = rw (e, f) (rising i n (omega arith) c)
      go (itself a e) (one_before b f) = absurd (omega arith)
      go (itself a e) (itself b f) = rw (e, f) (omega arith)
      go (itself a e) (one_behind n z b c f) = rw (e, f) (p.not_below n b c)
      go (one_behind m y a c e) (one_before b f) = absurd (omega arith)
      go (one_behind m y a c e) (itself b f) = absurd (omega arith)
      go (one_behind m y a c e) (one_behind n z b d f) = rw (e, f) (rising m n (omega arith) d)

  placed_covers : CoversOneMore (rows_in before low count) (first_of run) (end_of run) (rows_in after start (count + 1))
  placed_covers f =
      same (some_covers (rows_in after start (count + 1)) f) (covers (row_of_run run) f || some_covers (rows_in before low count) f)
      (λ e. let w = rows_cover after start (count + 1) f e in from w.0 w.2 (whence w.0 w.1))
      (λ e. elim (or_case (covers (row_of_run run) f) (some_covers (rows_in before low count) f) e) [
        | inl c ↦ let r = p.is_rank in cover_rows after start (count + 1) f p.rank (omega arith) (alike p.here ∙ c)
        | inr c ↦ let w = rows_cover before low count f c in into w.0 w.1 w.2
      ])
    where
      alike : {m n : ℕ} → m ≡ n → covers (row_of_run m) f ≡ covers (row_of_run n) f
      alike e = ap (λ (n : ℕ). covers (row_of_run n) f) e

      by_another : (i : ℕ) → i < count → covers (row_of_run (get_or before (low + i) 0)) f ≡ true → (covers (row_of_run run) f || some_covers (rows_in before low count) f) ≡ true
      by_another i h c = or_right (covers (row_of_run run) f) (some_covers (rows_in before low count) f) (cover_rows before low count f i h c)

      from : (j : ℕ) → covers (row_of_run (get_or after (start + j) 0)) f ≡ true → Whence before low count run after start p.rank j
          → (covers (row_of_run run) f || some_covers (rows_in before low count) f) ≡ true
      from j c (one_before a e) = let r = p.is_rank in by_another j (omega arith) (sym (alike e) ∙ c)
      from j c (itself a e) = or_left (covers (row_of_run run) f) (some_covers (rows_in before low count) f) (sym (alike e) ∙ c)
      from j c (one_behind i z a b e) = by_another i b (sym (alike e) ∙ c)

      into : (j : ℕ) → j < count → covers (row_of_run (get_or before (low + j) 0)) f ≡ true → some_covers (rows_in after start (count + 1)) f ≡ true
      into j h c = elim (dec_lt j p.rank) [
        | yes a ↦ cover_rows after start (count + 1) f j (omega arith) (alike (p.lower j a) ∙ c)
        | no a ↦ cover_rows after start (count + 1) f (suc j) (omega arith) (alike (p.higher j (omega arith) h) ∙ c)
      ]

  placed : (first end : ℕ) → end < 4294967296 → run ≡ run_of first end → Ordered before low count → count < 64 → length after ≡ length before
      → start ≤ 64 → 64 ≤ start + (count + 1) → OneMore before low count first end after start count
  placed first end fits is o h l s u =
      let above : first ≡ first_of run = omega arith in
      let below : end ≡ end_of run = omega arith in
      record {
        ordered = record { places = l ∙ o.places; from = s; upto = u; few = omega arith; rising = placed_rising o.rising };
        counted = simp rows_length;
        covers = rw (above, below) placed_covers;
      }

-- ---- the first run
module _ (runs : List ℕ) (low count first end run : ℕ) (fits : end < 4294967296) (is : run ≡ run_of first end) (o : Ordered runs low count) (h : count < 64) where
  pub put_first : count ≡ 0 → OneMore runs low count first end (set runs low run) low count
  put_first z = placed runs low count run (set runs low run) low alone first end fits is o h (length-set runs low run) o.from (let u = o.upto in omega arith)
    where
      alone : Placed runs low count run (set runs low run) low
      alone = record {
        rank = 0;
        is_rank = omega arith;
        lower = λ j k. absurd (omega arith);
        here =
            let e : low + 0 ≡ low = omega arith in
            let l = o.places in
            let f = o.from in
            ap (λ (i : ℕ). get_or (set runs low run) i 0) e ∙ get_or-set_same runs low run 0 (omega arith);
        higher = λ j k m. absurd (omega arith);
        not_above = λ j k. absurd (omega arith);
        not_below = λ j k m. absurd (omega arith);
      }

-- ---- a run lower than the middle one comes from below: the j-th on its way is the j-th of all
module _ (runs : List ℕ) (low count middle : ℕ) (is_middle : middle ≡ get_or runs (low + count / 2) 0) (o : Ordered runs low count) (h : count < 64) (run : ℕ) where
  upwards : (j : ℕ) → get_or runs (up_from low (suc j)) 0 ≡ get_or runs (low + j) 0
  upwards j = let u = o.upto in let e : up_from low (suc j) ≡ low + j = omega arith in ap (λ (i : ℕ). get_or runs i 0) e

  middle_stays : run < middle → Lower run (get_or runs (up_from low (suc (count / 2))) 0) → ⊥
  middle_stays b w = let e = upwards (count / 2) in let m = is_middle in omega arith

  pub ends_below : run < middle → Ends (up_from low) (Lower run) runs
  ends_below b = record {
    at = count / 2;
    not_in_way = middle_stays b;
    differ = λ i j k l e. omega arith;
    there = λ j k. let f = o.from in omega arith;
  }

  module _ (after : List ℕ) (some : count ≢ 0) (first end : ℕ) (fits : end < 4294967296) (is : run ≡ run_of first end) where
    pub put_lower : run < middle → Put (up_from low) (Lower run) runs run after → OneMore runs low count first end after (low - 1) count
    put_lower b p =
        placed runs low count run after (low - 1) in_place first end fits is o h p.way.same_length (let f = o.from in omega arith) (let u = o.upto in omega arith)
      where
        few : p.moved < count
        few =
            let passed : count / 2 < p.moved → ⊥ = λ k. middle_stays b (p.way.in_way (count / 2) k) in
            omega (arith, passed)

        in_place : Placed runs low count run after (low - 1)
        in_place = record {
          rank = p.moved;
          is_rank = let m = few in omega arith;
          lower = λ j k. p.way.back j k ∙ upwards j;
          here = p.put;
          higher = λ j k m. p.way.rest (up_from low (suc j)) (λ i l e. omega arith) ∙ upwards j;
          not_above = λ j k. let l = p.way.in_way j k in let e = upwards j in omega arith;
          not_below = λ j k m.
              let beyond : get_or runs (up_from low (suc p.moved)) 0 < run → ⊥ = p.next_to in
              let e = upwards p.moved in
              let r = o.rising p.moved j k m in
              omega (arith, beyond);
        }

-- ---- and any other from above: the j-th on its way is the j-th from the end
module _ (runs : List ℕ) (low count middle : ℕ) (is_middle : middle ≡ get_or runs (low + count / 2) 0) (o : Ordered runs low count) (h : count < 64) (run : ℕ) (some : count ≢ 0) where
  place_of : (j : ℕ) → j < count → down_from (low + count) (suc (count - 1 - j)) ≡ low + j
  place_of j k = omega arith

  downwards : (j : ℕ) → j < count → get_or runs (down_from (low + count) (suc (count - 1 - j))) 0 ≡ get_or runs (low + j) 0
  downwards j k = ap (λ (i : ℕ). get_or runs i 0) (place_of j k)

  middle_rests : middle ≤ run → Higher run (get_or runs (down_from (low + count) (suc (count - 1 - count / 2))) 0) → ⊥
  middle_rests b w = let e = downwards (count / 2) (omega arith) in let m = is_middle in omega arith

  pub ends_above : middle ≤ run → Ends (down_from (low + count)) (Higher run) runs
  ends_above b = record {
    at = count - 1 - count / 2;
    not_in_way = middle_rests b;
    differ = λ i j k l e. omega arith;
    there = λ j k. let f = o.from in omega arith;
  }

  module _ (after : List ℕ) (first end : ℕ) (fits : end < 4294967296) (is : run ≡ run_of first end) where
    pub put_higher : middle ≤ run → Put (down_from (low + count)) (Higher run) runs run after → OneMore runs low count first end after low count
    put_higher b p = placed runs low count run after low in_place first end fits is o h p.way.same_length o.from (let u = o.upto in omega arith)
      where
        few : p.moved < count
        few =
            let passed : count - 1 - count / 2 < p.moved → ⊥ = λ k. middle_rests b (p.way.in_way (count - 1 - count / 2) k) in
            omega (arith, passed)

        off_the_way : (j : ℕ) → j < count - p.moved → (i : ℕ) → i ≤ p.moved → low + j ≢ down_from (low + count) i
        off_the_way j k i l e = omega arith

        place_above : (j : ℕ) → j < count → low + suc j ≡ down_from (low + count) (count - 1 - j)
        place_above j k = omega arith

        last_moved : count - 1 - (count - 1 - p.moved) ≡ p.moved
        last_moved = let m = few in omega arith

        -- the one next to the run is not higher
        next_lower : get_or runs (low + (count - 1 - p.moved)) 0 ≤ run
        next_lower =
            let m = few in
            let beyond : run < get_or runs (down_from (low + count) (suc p.moved)) 0 → ⊥ = p.next_to in
            let e = downwards (count - 1 - p.moved) (omega arith) in
            let f = ap (λ (i : ℕ). get_or runs (down_from (low + count) (suc i)) 0) last_moved in
            omega (arith, beyond)

        in_place : Placed runs low count run after low
        in_place = record {
          rank = count - p.moved;
          is_rank = omega arith;
          lower = λ j k. p.way.rest (low + j) (off_the_way j k);
          here =
              let m = few in
              let e : low + (count - p.moved) ≡ low + count - p.moved = omega arith in
              ap (λ (i : ℕ). get_or after i 0) e ∙ p.put;
          higher = λ j k m. ap (λ (i : ℕ). get_or after i 0) (place_above j m) ∙ p.way.back (count - 1 - j) (omega arith) ∙ downwards j m;
          not_above = λ j k.
              let m = few in
              let l = next_lower in
              let r = o.rising j (count - 1 - p.moved) (omega arith) (omega arith) in
              omega arith;
          not_below = λ j k m. let l = p.way.in_way (count - 1 - j) (omega arith) in let e = downwards j m in omega arith;
        }
