-- Laws of a word as a set of numbers: what is in a word that the machine's or, complement and mask make, how many are in it, and which
-- of them is the lowest.
use Rattle.std.specs.Prelude.{if◌then◌else◌}
use Prim.Native.Nat.{ℕ, zero, suc, ◌+◌, ◌-◌, ◌*◌, ◌/◌, ◌%◌, ◌^◌, ◌≤◌, ◌<◌, max}
use mathlib.Core.Path.{◌≡◌, refl, sym, ap, ◌∙◌}
use mathlib.Core.Bool.{true, false, ◌&&◌, ◌||◌, not}
use mathlib.Core.Logic.{◌≢◌, ◌⊎◌, inl, inr, ⊎_elim}
use native.Mathlib.Omega.{arith}
use native.Mathlib.Nat.{pow-suc, one-le-pow}
use native.Mathlib.Numerals.{add-one}
use lib.Dec.{lit<, eqb-zero-suc, eqb-suc-zero, eqb-suc-suc, leb-suc-suc}
use lib.Bits.{bit_or, bit_and, or_step, or_zero_r, and_mask}
use lib.Count.{ones, ones_step, count_trailing_zeros}
use lib.Pow.{shl_exact, mod-pow-add}
use borrow.Author.Tests.{eq-eqb, eqb-true, lt-ltb, le-ltb, ltb-true}
use Rattle.rules.specs.Notation.{◌is◌, ◌<?◌, count}
use Rattle.rules.proofs.Ground.Logic.{same, or_right}
use Rattle.rules.proofs.Ground.Counting.{count_none, count_first}
use Rattle.nodesets.specs.Word.{in_word, add_word}

-- ---- a digit is 0 or 1
digit : (x : ℕ) → (x % 2 ≡ 0) ⊎ (x % 2 ≡ 1)
digit x = low (x % 2) (omega arith)
  where
    low : (a : ℕ) → a < 2 → (a ≡ 0) ⊎ (a ≡ 1)
    low zero h = inl refl
    low (suc zero) h = inr refl
    low (suc (suc a)) h = absurd (omega arith)

pub in_zero : (j : ℕ) → in_word 0 j ≡ false
unfolding in_word
in_zero zero = refl
in_zero (suc j) = in_zero j

-- ---- or
or_digit : (a b c : ℕ) → ((c * 2 + max (a % 2) (b % 2)) % 2 is 1) ≡ (a % 2 is 1 || b % 2 is 1)
or_digit a b c =
    ⊎_elim
    (λ e. let q : (c * 2 + max (a % 2) (b % 2)) % 2 ≡ b % 2 = omega arith in
    let r : (a % 2 is 1 || b % 2 is 1) ≡ (b % 2 is 1) = rw e in
    rw q (sym r))
    (λ e. let q : (c * 2 + max (a % 2) (b % 2)) % 2 ≡ 1 = omega arith in
    let r : (a % 2 is 1 || b % 2 is 1) ≡ true = rw e in
    rw q (sym r))
    (digit a)

or_rest : (a b c : ℕ) → (c * 2 + max (a % 2) (b % 2)) / 2 ≡ c
or_rest a b c = omega arith

pub in_or : (j x y : ℕ) → in_word (bit_or x y) j ≡ (in_word x j || in_word y j)
unfolding in_word
in_or zero x y = rw (or_step x y) (or_digit x y (bit_or (x / 2) (y / 2)))
in_or (suc j) x y = rw (or_step x y, or_rest x y (bit_or (x / 2) (y / 2))) (in_or j (x / 2) (y / 2))

pub in_power : (j i : ℕ) → in_word (2 ^ j) i ≡ (i is j)
unfolding in_word
in_power zero zero = refl
in_power zero (suc i) = in_zero i ∙ sym (eqb-suc-zero i)
in_power (suc j) zero = let e : 2 ^ suc j % 2 ≡ 0 = omega (arith, pow-suc 2 j) in rw (e, eqb-zero-suc j)
in_power (suc j) (suc i) = let e : 2 ^ suc j / 2 ≡ 2 ^ j = omega (arith, pow-suc 2 j) in rw (e, eqb-suc-suc i j) (in_power j i)

-- a word and one number more
pub in_add : (w j i : ℕ) → in_word (add_word w j) i ≡ (in_word w i || i is j)
unfolding add_word
in_add w j i = rw (in_or i w (2 ^ j), in_power j i)

-- a number that is in the word changes nothing
pub add_again : (w j : ℕ) → in_word w j ≡ true → add_word w j ≡ w
unfolding in_word add_word
add_again w zero e = let q = eqb-true (w % 2) 1 e in rw (or_step w 1, or_zero_r (w / 2)) (omega arith)
add_again w (suc j) e =
    let h : 2 ^ suc j / 2 ≡ 2 ^ j = omega (arith, pow-suc 2 j) in
    let l : 2 ^ suc j % 2 ≡ 0 = omega (arith, pow-suc 2 j) in
    rw (or_step w (2 ^ suc j), h, l, add_again (w / 2) j e) (omega arith)

pub add_in : (w j : ℕ) → in_word (add_word w j) j ≡ true
add_in w j = in_add w j j ∙ or_right (in_word w j) (j is j) (eq-eqb j j refl)

one_shifted : (j : ℕ) → j < 64 → (1 * 2 ^ j) % 18446744073709551616 ≡ 2 ^ j
one_shifted j h = shl_exact 1 j 64 (lit< tt) (omega arith) ∙ omega arith

pub add_shift : (w j : ℕ) → j < 64 → bit_or w ((1 * 2 ^ j) % 18446744073709551616) ≡ add_word w j
unfolding add_word
add_shift w j h = ap (bit_or w) (one_shifted j h)

-- ---- complement and mask
not_digit : (k w : ℕ) → w < 2 ^ suc k → ((2 ^ suc k - 1 - w) % 2 is 1) ≡ not (w % 2 is 1)
not_digit k w h =
    ⊎_elim
    (λ e. let q : (2 ^ suc k - 1 - w) % 2 ≡ 1 = omega (arith, pow-suc 2 k) in
    let r : not (w % 2 is 1) ≡ true = rw e in
    rw q (sym r))
    (λ e. let q : (2 ^ suc k - 1 - w) % 2 ≡ 0 = omega (arith, pow-suc 2 k) in
    let r : not (w % 2 is 1) ≡ false = rw e in
    rw q (sym r))
    (digit w)

not_rest : (k w : ℕ) → w < 2 ^ suc k → (2 ^ suc k - 1 - w) / 2 ≡ 2 ^ k - 1 - w / 2
not_rest k w h = omega (arith, pow-suc 2 k)

pub in_not : (k j w : ℕ) → j < k → w < 2 ^ k → in_word (2 ^ k - 1 - w) j ≡ not (in_word w j)
unfolding in_word
in_not zero j w h p = absurd (omega arith)
in_not (suc k) zero w h p = not_digit k w p
in_not (suc k) (suc j) w h p = rw (not_rest k w p) (in_not k j (w / 2) (omega arith) (omega (arith, pow-suc 2 k)))

mask_step : (m x : ℕ) → x % 2 ^ suc m ≡ (x / 2 % 2 ^ m) * 2 + x % 2
mask_step m x = rw (← add-one m) (mod-pow-add x m 1)

pub in_mask : (m j x : ℕ) → in_word (x % 2 ^ m) j ≡ (j <? m && in_word x j)
unfolding in_word
in_mask zero j x = let e : x % 1 ≡ 0 = omega arith in rw (e, in_zero j, le-ltb j 0 (omega arith))
in_mask (suc m) zero x = let e : x % 2 ^ suc m % 2 ≡ x % 2 = rw (mask_step m x) (omega arith) in rw (e, lt-ltb 0 (suc m) (omega arith))
in_mask (suc m) (suc j) x =
    let e : x % 2 ^ suc m / 2 ≡ x / 2 % 2 ^ m = rw (mask_step m x) (omega arith) in
    rw (e, leb-suc-suc (suc j) m) (in_mask m j (x / 2))

-- ---- the numbers below n - from that are not in the word, by the three ways to find them
module _ (w from n : ℕ) (fits : w < 18446744073709551616) where
  abbrev pub Outside : ℕ → Type 0
  Outside r = (j : ℕ) → j < 64 → in_word r j ≡ (from + j <? n && not (in_word w j))

  pub outside_none : n ≤ from → Outside 0
  outside_none h j i = rw (in_zero j, le-ltb (from + j) n (omega arith))

  pub outside_all : 64 ≤ n - from → Outside (18446744073709551615 - w)
  outside_all h j i = rw (in_not 64 j w i fits, lt-ltb (from + j) n (omega arith))

  shifted : (j : ℕ) → (j <? (n - from)) ≡ (from + j <? n)
  shifted j =
      same (j <? (n - from)) (from + j <? n)
      (λ e. let h = ltb-true j (n - from) e in lt-ltb (from + j) n (omega arith))
      (λ e. let h = ltb-true (from + j) n e in lt-ltb j (n - from) (omega arith))

  pub outside_some : n - from < 64 → Outside (bit_and (18446744073709551615 - w) ((1 * 2 ^ (n - from)) % 18446744073709551616 - 1))
  outside_some h j i =
      rw (one_shifted (n - from) h, and_mask (18446744073709551615 - w) (n - from), in_mask (n - from) j (18446744073709551615 - w), in_not 64 j w i fits, shifted j)

pub mask_fits : (m : ℕ) → m < 64 → 1 ≤ (1 * 2 ^ m) % 18446744073709551616
mask_fits m h = rw (one_shifted m h) (one-le-pow m 2 (omega arith))

-- ---- how many
pub ones_count : (k w : ℕ) → w < 2 ^ k → ones w ≡ count k (in_word w)
unfolding ones in_word
ones_count zero w h = let e : w ≡ 0 = omega arith in rw e (sym (count_none (in_word 0)))
ones_count (suc k) w h =
    ones_step w ∙ ap (λ (n : ℕ). w % 2 + n) (ones_count k (w / 2) (omega (arith, pow-suc 2 k)))
    ∙ ap (λ (n : ℕ). n + count k (in_word (w / 2))) first ∙ sym (count_first k (in_word w))
  where
    first : w % 2 ≡ (if w % 2 is 1 then 1 else 0)
    first = ⊎_elim (λ e. rw e) (λ e. rw e) (digit w)

-- ---- the lowest
trailing_even : (k w : ℕ) → w % 2 ≡ 0 → count_trailing_zeros (suc k) w ≡ suc (count_trailing_zeros k (w / 2))
unfolding count_trailing_zeros
trailing_even k w e = rw e

trailing_odd : (k w : ℕ) → w % 2 ≡ 1 → count_trailing_zeros (suc k) w ≡ 0
unfolding count_trailing_zeros
trailing_odd k w e = rw e

pub trailing_in : (k w : ℕ) → w ≢ 0 → w < 2 ^ k → (count_trailing_zeros k w < k) × (in_word w (count_trailing_zeros k w) ≡ true)
unfolding in_word
trailing_in zero w z h = absurd (z (omega arith))
trailing_in (suc k) w z h =
    ⊎_elim
    (λ e. let q = trailing_in k (w / 2) (λ y. z (omega arith)) (omega (arith, pow-suc 2 k)) in rw (trailing_even k w e) (omega arith, q.1))
    (λ e. rw (trailing_odd k w e) (omega arith, rw e))
    (digit w)

pub trailing_below : (k w j : ℕ) → j < count_trailing_zeros k w → in_word w j ≡ false
unfolding count_trailing_zeros in_word
trailing_below zero w j h = absurd (omega arith)
trailing_below (suc k) w zero h = ⊎_elim (λ e. rw e) (λ e. absurd (omega (arith, trailing_odd k w e))) (digit w)
trailing_below (suc k) w (suc j) h =
    ⊎_elim
    (λ e. trailing_below k (w / 2) j (omega (arith, trailing_even k w e)))
    (λ e. absurd (omega (arith, trailing_odd k w e)))
    (digit w)
