-- Deciding: an equation or a test, each branch knowing how it came out.
use mathlib.Core.Path.{◌≡◌, refl}
use mathlib.Core.Bool.{Bool, true, false}
use mathlib.Core.Logic.{◌≢◌}
use Prim.Native.Nat.{ℕ, ◌≤◌}
use native.Mathlib.Omega.{arith}
use native.Mathlib.Decide.{ℕ_discrete}

pub if_same {ℓ} : {C : Type ℓ} (a b : ℕ) → (a ≡ b → C) → (a ≢ b → C) → C
if_same a b f g = elim (ℕ_discrete a b) [ yes p ↦ f p | no q ↦ g q ]

pub if_true : {C : Type 0} (b : Bool) → (b ≡ true → C) → (b ≡ false → C) → C
if_true true f g = f refl
if_true false f g = g refl

-- what is left once the first few numbers are excluded: omega takes few such premises at once
pub beyond_3 : (p : ℕ) → p ≢ 0 → p ≢ 1 → p ≢ 2 → p ≢ 3 → 4 ≤ p
beyond_3 p d₀ d₁ d₂ d₃ = omega arith
