-- Laws of `count` and `lowest` over any test of numbers.
use Rattle.std.specs.Prelude.{if◌then◌else◌}
use Prim.Native.Nat.{ℕ, zero, suc, ◌+◌, ◌-◌, ◌≤◌, ◌<◌}
use mathlib.Core.Path.{◌≡◌, refl, sym, ap, ◌∙◌}
use mathlib.Core.Bool.{Bool, true, false, ◌&&◌, ◌||◌}
use mathlib.Core.Logic.{◌≢◌, ⊎_elim}
use native.Mathlib.Omega.{arith}
use native.Mathlib.Nat.{eq-or-lt_of_le, add-zero, add-suc}
use borrow.Author.Tests.{ne_eqb, lt-ltb, le-ltb}
use Rattle.rules.specs.Notation.{◌is◌, ◌<?◌, count, lowest}
use Rattle.rules.proofs.Ground.Deciding.{if_same}
use Rattle.rules.proofs.Ground.Logic.{either, or_left, or_right, neither, not_of, branch, clash}

-- ---- count
pub count_none : (p : ℕ → Bool) → count 0 p ≡ 0
unfolding count
count_none p = refl

pub count_in : (n : ℕ) (p : ℕ → Bool) → p n ≡ true → count (suc n) p ≡ count n p + 1
unfolding count
count_in n p e = rw e

pub count_out : (n : ℕ) (p : ℕ → Bool) → p n ≡ false → count (suc n) p ≡ count n p
unfolding count
count_out n p e = rw e (omega arith)

pub count_alike : (n : ℕ) (p q : ℕ → Bool) → ((j : ℕ) → j < n → p j ≡ q j) → count n p ≡ count n q
unfolding count
count_alike zero p q h = refl
count_alike (suc n) p q h = rw (h n (omega arith), count_alike n p q (λ j i. h j (omega arith)))

pub count_split : (a b : ℕ) (p : ℕ → Bool) → count (a + b) p ≡ count a p + count b (λ j. p (a + j))
unfolding count
count_split a zero p = rw (add-zero a) (omega arith)
count_split a (suc b) p = rw (add-suc a b, count_split a b p) (omega arith)

-- the first number apart
pub count_first : (n : ℕ) (p : ℕ → Bool) → count (suc n) p ≡ (if p 0 then 1 else 0) + count n (λ j. p (suc j))
unfolding count
count_first zero p = omega arith
count_first (suc n) p = ap (λ (k : ℕ). k + (if p (suc n) then 1 else 0)) (count_first n p) ∙ omega arith

pub count_small : (n : ℕ) (p : ℕ → Bool) → count n p ≤ n
count_small zero p = let z = count_none p in omega arith
count_small (suc n) p =
    let h = count_small n p in
    ⊎_elim (λ e. let i = count_in n p e in omega arith) (λ e. let i = count_out n p e in omega arith) (either (p n))

-- what holds only below n is counted below n
pub count_cut : (n m : ℕ) (p q : ℕ → Bool) → n ≤ m → ((j : ℕ) → j < m → p j ≡ (j <? n && q j)) → count m p ≡ count n q
count_cut n zero p q h e = let z : n ≡ 0 = omega arith in rw z (count_none p ∙ sym (count_none q))
count_cut n (suc m) p q h e =
    ⊎_elim
    (λ z. rw z (count_alike (suc m) p q (λ j i. e j i ∙ rw (lt-ltb j n (omega arith)))))
    (λ z. count_out m p (e m (omega arith) ∙ rw (le-ltb m n (omega arith))) ∙ count_cut n m p q (omega arith) (λ j i. e j (omega arith)))
    (eq-or-lt_of_le {n = n} {m = suc m} h)

-- ---- one number may count differently, the others alike
pub count_change : (n i : ℕ) (p q : ℕ → Bool) → i < n → ((j : ℕ) → j ≢ i → q j ≡ p j)
    → count n q + (if p i then 1 else 0) ≡ count n p + (if q i then 1 else 0)
unfolding count
count_change zero i p q l h = absurd (omega arith)
count_change (suc n) i p q l h =
    if_same i n
    (λ e. let a = count_alike n q p (λ j k. h j (λ z. omega arith)) in rw (e, a) (omega arith))
    (λ d. let c = count_change n i p q (omega arith) h in rw (h n (λ e. d (sym e))) (omega arith))

-- ---- more of them
pub count_grows : (n : ℕ) (p : ℕ → Bool) → count n p ≤ count (suc n) p
count_grows n p =
    ⊎_elim (λ e. let i = count_in n p e in omega arith) (λ e. let i = count_out n p e in omega arith) (either (p n))

pub count_wider : (n : ℕ) (p q : ℕ → Bool) → ((j : ℕ) → p j ≡ true → q j ≡ true) → count n p ≤ count n q
count_wider zero p q h = let a = count_none p in omega arith
count_wider (suc n) p q h =
    let c = count_wider n p q h in
    ⊎_elim
    (λ e. let i = count_in n p e in let j = count_in n q (h n e) in omega arith)
    (λ e. let i = count_out n p e in let j = count_grows n q in omega arith)
    (either (p n))

-- q holds of what p holds of, and of i besides
pub count_more : (n : ℕ) (p q : ℕ → Bool) (i : ℕ) → ((j : ℕ) → p j ≡ true → q j ≡ true) → i < n → p i ≡ false → q i ≡ true → suc (count n p) ≤ count n q
count_more zero p q i h b e f = absurd (omega arith)
count_more (suc n) p q i h b e f =
    ⊎_elim
    (λ z. let c = count_wider n p q h in
    let u = count_out n p (ap p (sym z) ∙ e) in
    let v = count_in n q (ap q (sym z) ∙ f) in
    omega arith)
    (λ z. let c = count_more n p q i h z e f in
    ⊎_elim
    (λ g. let u = count_in n p g in let v = count_in n q (h n g) in omega arith)
    (λ g. let u = count_out n p g in let v = count_grows n q in omega arith)
    (either (p n)))
    (eq-or-lt_of_le {n = i} {m = n} (omega arith))

-- n of them below n are all of them
pub count_some : (n i : ℕ) (p : ℕ → Bool) → i < n → p i ≡ true → 1 ≤ count n p
count_some n i p l e = let h = count_more n (λ j. false) p i (λ j z. absurd (clash false z refl)) l refl e in omega arith

pub count_full : (n : ℕ) (p : ℕ → Bool) (j : ℕ) → n ≤ count n p → j < n → p j ≡ true
count_full zero p j f h = absurd (omega arith)
count_full (suc n) p j f h =
    let c = count_small n p in
    ⊎_elim
    (λ e. let g = count_in n p e in
    ⊎_elim (λ z. ap p z ∙ e) (λ z. count_full n p j (omega arith) z) (eq-or-lt_of_le {n = j} {m = n} (omega arith)))
    (λ e. let g = count_out n p e in absurd (omega arith))
    (either (p n))

-- ---- over a run of numbers
-- none of those from a to b has p
pub count_gap : (a b : ℕ) (p : ℕ → Bool) → a ≤ b → ((j : ℕ) → a ≤ j → j < b → p j ≡ false) → count b p ≡ count a p
count_gap a zero p h e = let z : a ≡ 0 = omega arith in ap (λ (n : ℕ). count n p) (sym z)
count_gap a (suc b) p h e =
    ⊎_elim
    (λ z. ap (λ (n : ℕ). count n p) (sym z))
    (λ z. count_out b p (e b (omega arith) (omega arith)) ∙ count_gap a b p (omega arith) (λ j g i. e j g (omega arith)))
    (eq-or-lt_of_le {n = a} {m = suc b} h)

-- all of them have
pub count_run : (a b : ℕ) (p : ℕ → Bool) → a ≤ b → ((j : ℕ) → a ≤ j → j < b → p j ≡ true) → count b p ≡ count a p + (b - a)
count_run a zero p h e = let z : a ≡ 0 = omega arith in rw z (omega arith)
count_run a (suc b) p h e =
    ⊎_elim
    (λ z. let same : count a p ≡ count (suc b) p = ap (λ (n : ℕ). count n p) z in omega arith)
    (λ z. let i = count_in b p (e b (omega arith) (omega arith)) in
    let r = count_run a b p (omega arith) (λ j g i. e j g (omega arith)) in
    omega arith)
    (eq-or-lt_of_le {n = a} {m = suc b} h)

-- where nothing has p from a on, nor from b on, both bounds give the same number
pub count_bounds : (a b : ℕ) (p : ℕ → Bool) → ((j : ℕ) → a ≤ j → p j ≡ false) → ((j : ℕ) → b ≤ j → p j ≡ false) → count a p ≡ count b p
count_bounds a b p e f =
    sym (count_gap a (a + b) p (omega arith) (λ j g i. e j g)) ∙ count_gap b (a + b) p (omega arith) (λ j g i. f j g)

-- ---- of either
pub count_or : (n : ℕ) (p q : ℕ → Bool) → count n (λ j. p j || q j) ≤ count n p + count n q
count_or zero p q = let z = count_none (λ j. p j || q j) in omega arith
count_or (suc n) p q =
    let h = count_or n p q in
    let gp = count_grows n p in
    let gq = count_grows n q in
    ⊎_elim
    (λ e. let i = count_in n (λ j. p j || q j) (or_left (p n) (q n) e) in let k = count_in n p e in omega arith)
    (λ e. ⊎_elim
    (λ f. let i = count_in n (λ j. p j || q j) (or_right (p n) (q n) f) in let k = count_in n q f in omega arith)
    (λ f. let i = count_out n (λ j. p j || q j) (neither (p n) (q n) e f) in omega arith)
    (either (q n)))
    (either (p n))

pub count_apart : (n : ℕ) (p q : ℕ → Bool) → ((j : ℕ) → p j ≡ true → q j ≡ true → ⊥) → count n (λ j. p j || q j) ≡ count n p + count n q
count_apart zero p q d = let z = count_none (λ j. p j || q j) in let k = count_none p in let l = count_none q in omega arith
count_apart (suc n) p q d =
    let h = count_apart n p q d in
    ⊎_elim
    (λ e. let i = count_in n (λ j. p j || q j) (or_left (p n) (q n) e) in
    let k = count_in n p e in
    let l = count_out n q (not_of (q n) (d n e)) in
    omega arith)
    (λ e. let k = count_out n p e in
    ⊎_elim
    (λ f. let i = count_in n (λ j. p j || q j) (or_right (p n) (q n) f) in let l = count_in n q f in omega arith)
    (λ f. let i = count_out n (λ j. p j || q j) (neither (p n) (q n) e f) in let l = count_out n q f in omega arith)
    (either (q n)))
    (either (p n))

-- ---- lowest
pub lowest_has : (n : ℕ) (p : ℕ → Bool) (a : ℕ) → lowest n p ≡ a → a ≢ 0 → (p a ≡ true) × (a ≤ n)
unfolding lowest
lowest_has zero p a e z = absurd (z (sym e))
lowest_has (suc n) p a e z =
    branch (λ (x : ℕ). x ≡ a → (p a ≡ true) × (a ≤ suc n)) (lowest n p is 0)
    (λ h. branch (λ (x : ℕ). x ≡ a → (p a ≡ true) × (a ≤ suc n)) (p (suc n))
    (λ q y. (ap p (sym y) ∙ q, omega arith))
    (λ q y. absurd (z (sym y))))
    (λ h y. let w = lowest_has n p a y z in (w.0, (let k = w.1 in omega arith)))
    e

pub lowest_none : (n : ℕ) (p : ℕ → Bool) → ((m : ℕ) → m < n → p (suc m) ≡ false) → lowest n p ≡ 0
unfolding lowest
lowest_none zero p h = refl
lowest_none (suc n) p h = rw (lowest_none n p (λ m i. h m (omega arith)), h n (omega arith))

pub lowest_at : (n m : ℕ) (p : ℕ → Bool) → m < n → p (suc m) ≡ true → ((k : ℕ) → k < m → p (suc k) ≡ false) → lowest n p ≡ suc m
unfolding lowest
lowest_at zero m p h e f = absurd (omega arith)
lowest_at (suc n) m p h e f =
    ⊎_elim
    (λ q. rw (lowest_none n p (λ k i. f k (omega arith)), ← q, e))
    (λ q. rw (lowest_at n m p q e f, ne_eqb (suc m) 0 (λ z. omega arith)))
    (eq-or-lt_of_le {n = m} {m = n} (omega arith))

pub lowest_alike : (n : ℕ) (p q : ℕ → Bool) → ((m : ℕ) → m < n → p (suc m) ≡ q (suc m)) → lowest n p ≡ lowest n q
unfolding lowest
lowest_alike zero p q h = refl
lowest_alike (suc n) p q h = rw (h n (omega arith), lowest_alike n p q (λ m i. h m (omega arith)))

lowest_stays : (n : ℕ) (p : ℕ → Bool) → p (suc n) ≡ false → lowest (suc n) p ≡ lowest n p
unfolding lowest
lowest_stays n p e = rw e (last (lowest n p))
  where
    last : (k : ℕ) → (if k is 0 then 0 else k) ≡ k
    last zero = refl
    last (suc k) = rw (ne_eqb (suc k) 0 (λ z. omega arith))

-- what holds only of 1 to n has its lowest there
pub lowest_cut : (n m : ℕ) (p q : ℕ → Bool) → n ≤ m → ((j : ℕ) → j < m → p (suc j) ≡ (j <? n && q (suc j))) → lowest m p ≡ lowest n q
lowest_cut n zero p q h e = let z : n ≡ 0 = omega arith in rw z (lowest_alike 0 p q (λ m i. absurd (omega arith)))
lowest_cut n (suc m) p q h e =
    ⊎_elim
    (λ z. rw z (lowest_alike (suc m) p q (λ j i. e j i ∙ rw (lt-ltb j n (omega arith)))))
    (λ z. lowest_stays m p (e m (omega arith) ∙ rw (le-ltb m n (omega arith))) ∙ lowest_cut n m p q (omega arith) (λ j i. e j (omega arith)))
    (eq-or-lt_of_le {n = n} {m = suc m} h)
