-- Laws of numbers as text: how the code comes to the digits, and how many there are.
use Prim.Native.Nat.{ℕ, zero, suc, ◌+◌, ◌/◌, ◌%◌, ◌^◌, ◌<◌, ◌≤◌}
use native.Mathlib.Omega.{arith}
use native.Mathlib.Nat.{pow-suc}
use mathlib.Core.Bool.{Bool, true, false}
use mathlib.Core.List.{[], ◌∷◌, ◌++◌}
use mathlib.Core.Path.{◌≡◌, refl}
use lib.ListN.{length, length-append}
use borrow.Author.Tests.{lt-ltb, le-ltb, ltb-true, ltb-false}
use Rattle.rules.specs.Notation.{◌<?◌}
use Rattle.rules.specs.Play.{digits, decimal}
use Rattle.text.specs.Page.{Prints}
use Rattle.text.specs.declared.Page.{Page as Lent}
use Rattle.text.proofs.Pages.{then}

-- more hops than the number change nothing
step_same : (f g n : ℕ) (b : Bool) → n <? 10 ≡ b → digits f (n / 10) ≡ digits g (n / 10) → digits (suc f) n ≡ digits (suc g) n
unfolding digits
step_same f g n true e r = rw (e, digits)
step_same f g n false e r = rw (e, digits, r)

enough : (f g n : ℕ) → n ≤ f → n ≤ g → digits f n ≡ digits g n
unfolding digits
enough zero zero n h i = refl
enough zero (suc g) n h i = let k : n < 10 = omega arith in rw (lt-ltb n 10 k, digits)
enough (suc f) zero n h i = let k : n < 10 = omega arith in rw (lt-ltb n 10 k, digits)
enough (suc f) (suc g) n h i = step_same f g n (n <? 10) refl (enough f g (n / 10) (omega arith) (omega arith))

decimal_small : (n : ℕ) → n < 10 → decimal n ≡ (48 + n % 10) ∷ []
unfolding decimal digits
decimal_small zero h = refl
decimal_small (suc n) h = rw (lt-ltb (suc n) 10 h, digits)

decimal_more : (n : ℕ) → 10 ≤ n → decimal n ≡ decimal (n / 10) ++ ((48 + n % 10) ∷ [])
unfolding decimal digits
decimal_more zero h = absurd (omega arith)
decimal_more (suc n) h = rw (le-ltb (suc n) 10 h, digits, enough n (suc n / 10) (suc n / 10) (omega arith) (omega arith))

-- ---- the two ways through the code: the last digit alone, or after those before it
module _ {p q : Lent} {n : ℕ} where
  pub small_printed : n < 10 → Prints p q ((48 + n % 10) ∷ []) → Prints p q (decimal n)
  small_printed h a = rw (decimal_small n h) a

  pub more_printed : {r : Lent} → 10 ≤ n → Prints p q (decimal (n / 10)) → Prints q r ((48 + n % 10) ∷ []) → Prints p r (decimal n)
  more_printed h a b = rw (decimal_more n h) (then a b)

-- ---- a number below 10 to the k has at most k digits
digits_at_most : (k n : ℕ) (b : Bool) → n <? 10 ≡ b → n < 10 ^ suc k → ((m : ℕ) → m < 10 ^ k → length (decimal m) ≤ k) → length (decimal n) ≤ suc k
digits_at_most k n true e h r = rw (decimal_small n (ltb-true n 10 e)) (omega arith)
digits_at_most k n false e h r =
    let m : 10 ≤ n = ltb-false n 10 e in
    let p = pow-suc 10 k in
    let s = r (n / 10) (omega arith) in
    rw (decimal_more n m, length-append) (omega arith)

pub decimal_length : (k n : ℕ) → n < 10 ^ suc k → length (decimal n) ≤ suc k
decimal_length zero n h = let p = pow-suc 10 0 in rw (decimal_small n (omega arith)) (omega arith)
decimal_length (suc k) n h = digits_at_most (suc k) n (n <? 10) refl h (decimal_length k)
