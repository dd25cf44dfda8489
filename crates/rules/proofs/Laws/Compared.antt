-- What each number of the comparison says of two claims.
use mathlib.Core.Path.{◌≡◌}
use mathlib.Core.Bool.{true, false, ◌&&◌, ◌||◌}
use mathlib.Core.Logic.{◌⊎◌, inl, inr}
use Prim.Native.Nat.{ℕ, ◌≤◌}
use lib.Dec.{leb, eqb}
use lib.IntN.{ℤ, pos, negsuc}
use borrow.Author.Tests.{eqb-true, leb-true, le-leb, eq-eqb}
use Rattle.rules.specs.Comparison.{Claim, both_read, lies_after, lies_before, compare}
use Rattle.rules.proofs.Ground.Logic.{or_case, or_left, or_right, both, and_both, clash, branch}

-- o lies after c
pub data Precedes (c o : Claim) : Type 0 where
  apart : c.end ≤ o.start → Precedes c o
  readers : c.kind ≡ 1 → o.kind ≡ 1 → c.start ≤ o.start → Precedes c o

-- "+1 (o lies after) .. −1 (o lies before) .. 0: they clash."
pub data Compared (c o : Claim) : ℤ → Type 0 where
  after : Precedes c o → Compared c o (pos 1)
  before : Precedes o c → Compared c o (negsuc 0)
  clashing : (Precedes c o → ⊥) → (Precedes o c → ⊥) → Compared c o (pos 0)

-- both tests have one shape: x ≤ y, or both read and z ≤ w
module _ (c o : Claim) (x y z w : ℕ) where
  test_true : (leb x y || both_read c o && leb z w) ≡ true → (x ≤ y) ⊎ ((c.kind ≡ 1) × (o.kind ≡ 1) × (z ≤ w))
  test_true e = elim (or_case (leb x y) (both_read c o && leb z w) e) [
    | inl p ↦ inl (leb-true x y p)
    | inr p ↦
        let q = both (both_read c o) (leb z w) p in
        let k = both (eqb c.kind 1) (eqb o.kind 1) q.0 in
        inr (eqb-true c.kind 1 k.0, eqb-true o.kind 1 k.1, leb-true z w q.1)
  ]

  test_false : (leb x y || both_read c o && leb z w) ≡ false → (x ≤ y) ⊎ ((c.kind ≡ 1) × (o.kind ≡ 1) × (z ≤ w)) → ⊥
  test_false e (inl p) = clash (leb x y || both_read c o && leb z w) (or_left (leb x y) (both_read c o && leb z w) (le-leb x y p)) e
  test_false e (inr p) =
      let k = and_both (eqb c.kind 1) (eqb o.kind 1) (eq-eqb c.kind 1 p.0) (eq-eqb o.kind 1 p.1) in
      clash (leb x y || both_read c o && leb z w)
      (or_right (leb x y) (both_read c o && leb z w) (and_both (both_read c o) (leb z w) k (le-leb z w p.2))) e

module _ (c o : Claim) where
  after_true : lies_after c o ≡ true → Precedes c o
  unfolding lies_after
  after_true e = elim (test_true c o c.end o.start c.start o.start e) [ inl p ↦ apart p | inr p ↦ readers p.0 p.1 p.2 ]

  after_false : lies_after c o ≡ false → Precedes c o → ⊥
  unfolding lies_after
  after_false e (apart p) = test_false c o c.end o.start c.start o.start e (inl p)
  after_false e (readers k l p) = test_false c o c.end o.start c.start o.start e (inr (k, l, p))

  before_true : lies_before c o ≡ true → Precedes o c
  unfolding lies_before
  before_true e = elim (test_true c o o.end c.start o.start c.start e) [ inl p ↦ apart p | inr p ↦ readers p.1 p.0 p.2 ]

  before_false : lies_before c o ≡ false → Precedes o c → ⊥
  unfolding lies_before
  before_false e (apart p) = test_false c o o.end c.start o.start c.start e (inl p)
  before_false e (readers k l p) = test_false c o o.end c.start o.start c.start e (inr (l, k, p))

  pub compared : Compared c o (compare c o)
  unfolding compare
  compared =
      branch (Compared c o) (lies_after c o)
      (λ e. after (after_true e))
      (λ e. branch (Compared c o) (lies_before c o)
      (λ f. before (before_true f))
      (λ f. clashing (after_false e) (before_false f)))
