-- The comparison as one law for each way through the code, and what the code's tests of a signed number tell.
use Rattle.std.specs.Prelude.{if◌then◌else◌}
use Prim.Native.Nat.{ℕ, zero, suc, ◌<◌}
use mathlib.Core.Path.{◌≡◌, refl, sym, ap, ◌∙◌}
use mathlib.Core.Bool.{Bool, true, false, ◌&&◌, true≢false}
use native.Mathlib.Omega.{arith}
use lib.Dec.{eqb}
use lib.IntN.{ℤ, pos, negsuc}
use lib.Signed.{lt_z}
use mir.Syntax.{w32}
use mir.Val.{SFits, of_z, to_z}
use mir.Facts.{to_z-of_z, sfits_lit}
use borrow.Author.Tests.{ltb-true}
use Rattle.rules.specs.Comparison.{Claim, claim, lies_after, lies_before, compare, by_comparison}
use Rattle.comparison.specs.Behind.{lies_behind}

module _ (a b k x y m : ℕ) where
  pub compare_after : (u : Bool) → u ≡ lies_behind a b x (eqb k 1 && eqb m 1) → u ≡ true → pos 1 ≡ compare (claim a b k) (claim x y m)
  unfolding compare lies_after
  compare_after u p q = rw (sym p ∙ q)

  pub compare_before : (u v : Bool) → v ≡ lies_behind x y a (eqb k 1 && eqb m 1) → u ≡ lies_behind a b x (eqb k 1 && eqb m 1) → u ≡ false → v ≡ true
      → negsuc 0 ≡ compare (claim a b k) (claim x y m)
  unfolding compare lies_after lies_before
  compare_before u v r p q w = rw (sym p ∙ q, sym r ∙ w)

  pub compare_clash : (u v : Bool) → v ≡ lies_behind x y a (eqb k 1 && eqb m 1) → u ≡ lies_behind a b x (eqb k 1 && eqb m 1) → u ≡ false → v ≡ false
      → pos 0 ≡ compare (claim a b k) (claim x y m)
  unfolding compare lies_after lies_before
  compare_clash u v r p q w = rw (sym p ∙ q, sym r ∙ w)

-- ---- it is +1, 0 or −1, so it fits an i32
a_sign : (u v : Bool) → SFits w32 (if u then pos 1 else if v then negsuc 0 else pos 0)
a_sign true v = sfits_lit tt
a_sign false true = sfits_lit tt
a_sign false false = sfits_lit tt

pub compare_fits : (c o : Claim) → SFits w32 (compare c o)
unfolding compare
compare_fits c o = a_sign (lies_after c o) (lies_before c o)

pub of_words : (c o : Claim) (r : ℤ) → r ≡ compare c o → to_z w32 (of_z w32 r) ≡ compare c o
of_words c o r q = rw q (to_z-of_z (compare_fits c o))

-- ---- a signed local is tested by its bits, `of_z w32 r`: what each test tells
module _ {A : Type 0} (r : ℤ) (after clash before : A) (fits : SFits w32 r) where
  pub at_zero : of_z w32 r ≡ 0 → by_comparison r after clash before ≡ clash
  at_zero e = rw (sym (to_z-of_z fits) ∙ ap (to_z w32) e)

  pub below_zero : lt_z (to_z w32 (of_z w32 r)) (pos 0) ≡ true → by_comparison r after clash before ≡ before
  below_zero e = go r (rw (to_z-of_z fits) at e)
    where
      go : (z : ℤ) → lt_z z (pos 0) ≡ true → by_comparison z after clash before ≡ before
      go (pos k) h = let n : k < 0 = ltb-true k 0 h in absurd (omega arith)
      go (negsuc k) h = refl

  pub above_zero : (of_z w32 r ≡ 0 → ⊥) → lt_z (to_z w32 (of_z w32 r)) (pos 0) ≡ false → by_comparison r after clash before ≡ after
  above_zero n e = go r (λ z. n (ap (of_z w32) z)) (rw (to_z-of_z fits) at e)
    where
      go : (z : ℤ) → (z ≡ pos 0 → ⊥) → lt_z z (pos 0) ≡ false → by_comparison z after clash before ≡ after
      go (pos zero) d h = absurd (d refl)
      go (pos (suc k)) d h = refl
      go (negsuc k) d h = absurd (true≢false h)
