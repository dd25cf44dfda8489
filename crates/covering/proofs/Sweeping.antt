-- One pass over runs in order: behind so many of them, each frame before `reached` that some run covers has been counted.
use Prim.Native.Nat.{ℕ, ◌+◌, ◌-◌, ◌≤◌, ◌<◌, max}
use mathlib.Core.Path.{◌≡◌, sym, ap, ◌∙◌}
use mathlib.Core.Bool.{Bool, true, false}
use mathlib.Core.List.{List}
use native.Mathlib.Omega.{arith}
use native.Mathlib.Decide.{ℕ_discrete, dec_le, dec_lt}
use lib.ListN.{get_or, length, take, drop}
use Rattle.std.proofs.lemmas.List.{get_or-take, get_or-drop, length-take, length-drop}
use Rattle.rules.specs.Notation.{count as how_many}
use Rattle.rules.specs.Board.{covers, some_covers, covered_by}
use Rattle.rules.specs.declared.Row.{Row}
use Rattle.rules.proofs.Ground.Logic.{not_of}
use Rattle.rules.proofs.Ground.Counting.{count_none, count_small, count_gap, count_run}
use Rattle.rules.proofs.Laws.Covered.{covers_yes, covers_within, bounded}
use Rattle.covering.specs.Runs.{first_of, end_of, row_of_run, rows_in, Ordered}
use Rattle.covering.proofs.Placing.{rows_cover, cover_rows}

-- the runs in order, as a list, whose frames the rows cover
pub record Shown (rows : List Row) (runs : List ℕ) : Type 0 where
  pub rising : (i j : ℕ) → i ≤ j → j < length runs → get_or runs i 0 ≤ get_or runs j 0
  pub some_run : (f : ℕ) → some_covers rows f ≡ true → (j : ℕ) × (j < length runs) × (covers (row_of_run (get_or runs j 0)) f ≡ true)
  pub each_run : (f j : ℕ) → j < length runs → covers (row_of_run (get_or runs j 0)) f ≡ true → some_covers rows f ≡ true

-- those at their places, as the slice of them
pub shown : (places : List ℕ) (low count : ℕ) → Ordered places low count → Shown (rows_in places low count) (take (low + count - low) (drop low places))
shown places low count o = record {
  rising = λ i j h k. rw (each i (omega (arith, long)), each j (omega (arith, long))) (o.rising i j h (omega (arith, long)));
  some_run = λ f e.
      let w = rows_cover places low count f e in
      let h = w.1 in
      (w.0, omega (arith, long), ap (λ (run : ℕ). covers (row_of_run run) f) (each w.0 h) ∙ w.2);
  each_run = λ f j h e. cover_rows places low count f j (omega (arith, long)) (ap (λ (run : ℕ). covers (row_of_run run) f) (sym (each j (omega (arith, long)))) ∙ e);
}
  where
    slice : List ℕ
    slice = take (low + count - low) (drop low places)

    long : length slice ≡ count
    long = let p = o.places in let f = o.from in let w = o.few in simp (length-take, length-drop) (omega arith)

    each : (j : ℕ) → j < count → get_or slice j 0 ≡ get_or places (low + j) 0
    each j h = get_or-take (low + count - low) (drop low places) j 0 (omega arith) ∙ get_or-drop low places j 0

pub record Swept (rows : List Row) (runs : List ℕ) (covered reached i : ℕ) : Type 0 where
  pub within : i ≤ length runs
  pub passed : (j : ℕ) → j < i → end_of (get_or runs j 0) ≤ reached
  pub counted : covered ≡ how_many reached (some_covers rows)
  pub no_more : covered ≤ reached
  pub small : reached < 4294967296

module _ (rows : List Row) (runs : List ℕ) where
  pub swept_none : Swept rows runs 0 0 0
  swept_none = record {
    within = omega arith;
    passed = λ j h. absurd (omega arith);
    counted = sym (count_none (some_covers rows));
    no_more = omega arith;
    small = omega arith;
  }

  -- no frame is covered before a run that has not been passed, but for those before `reached`
  module _ (covered reached i : ℕ) (o : Shown rows runs) (s : Swept rows runs covered reached i) where
    gap : (f : ℕ) → i < length runs → reached ≤ f → f < first_of (get_or runs i 0) → some_covers rows f ≡ false
    gap f h g k = not_of (some_covers rows f) refused
      where
        by_none : (j : ℕ) → j < length runs → first_of (get_or runs j 0) ≤ f → f < end_of (get_or runs j 0) → ⊥
        by_none j l a b = elim (dec_lt j i) [
          | yes y ↦ let p = s.passed j y in omega arith
          | no y ↦ let r = o.rising i j (omega arith) l in omega arith
        ]

        refused : some_covers rows f ≡ true → ⊥
        refused e =
            let w = o.some_run f e in
            let c = covers_within (row_of_run (get_or runs w.0 0)) f w.2 in
            by_none w.0 w.1 c.0 c.1

    pub swept_all : length runs ≤ i → covered ≡ covered_by rows
    swept_all h = s.counted ∙ bounded rows reached (λ f g. not_of (some_covers rows f) (behind f g))
      where
        behind : (f : ℕ) → reached ≤ f → some_covers rows f ≡ true → ⊥
        behind f g e =
            let w = o.some_run f e in
            let c = (covers_within (row_of_run (get_or runs w.0 0)) f w.2).1 in
            let j = w.1 in
            let p = s.passed w.0 (omega arith) in
            omega arith

    module _ (h : i < length runs) (run : ℕ) (is : run ≡ get_or runs i 0) where
      own : (f : ℕ) → first_of run ≤ f → f < end_of run → some_covers rows f ≡ true
      own f a b = o.each_run f i h (covers_yes (row_of_run (get_or runs i 0)) f (rw (← is) a) (rw (← is) b))

      before : (f : ℕ) → reached ≤ f → f < first_of run → some_covers rows f ≡ false
      before f a b = gap f h a (rw (← is) b)

      -- the frames between what was reached before the run and after it
      grows : how_many (max reached (end_of run)) (some_covers rows) ≡ covered + (end_of run - max reached (first_of run))
      grows = elim (dec_le (end_of run) reached) [
        | yes a ↦
            let e : max reached (end_of run) ≡ reached = omega arith in
            let c = s.counted in
            rw e (omega arith)
        | no a ↦
            let e : max reached (end_of run) ≡ end_of run = omega arith in
            let c = s.counted in
            rw e (elim (dec_le (first_of run) reached) [
              | yes b ↦ let r = count_run reached (end_of run) p (omega arith) (λ f k l. own f (omega arith) l) in omega arith
              | no b ↦ elim (dec_le (first_of run) (end_of run)) [
                | yes d ↦
                    let g = count_gap reached (first_of run) p (omega arith) before in
                    let r = count_run (first_of run) (end_of run) p d own in
                    omega arith
                | no d ↦ let g = count_gap reached (end_of run) p (omega arith) (λ f k l. before f k (omega arith)) in omega arith
              ]
            ])
      ]
        where
          p : ℕ → Bool
          p = some_covers rows

      pub swept_more : (first end from past more later : ℕ) → later ≡ max reached end → more ≡ past → past ≡ end - from → from ≡ max reached first → first ≡ first_of run → end ≡ end_of run
          → Swept rows runs (covered + more) later (i + 1)
      swept_more first end from past more later el em ep ef es ee = record {
        within = omega arith;
        passed = λ j k. elim (ℕ_discrete j i) [
          | yes y ↦ let q : get_or runs j 0 ≡ run = ap (λ (n : ℕ). get_or runs n 0) y ∙ sym is in rw q (omega arith)
          | no y ↦ let q = s.passed j (omega arith) in omega arith
        ];
        counted = rw (el, em, ep, ef, es, ee) (sym grows);
        no_more = let g = grows in let k = count_small (max reached (end_of run)) (some_covers rows) in rw (el, em, ep, ef, es, ee) (omega arith);
        small = let r = s.small in omega arith;
      }
