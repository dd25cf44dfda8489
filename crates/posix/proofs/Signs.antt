-- What the code's tests of a signed number tell. The code has such a number as its bits, and reads it back from them.
use Prim.Native.Nat.{suc, ◌-◌}
use mathlib.Core.Path.{◌≡◌, sym, ap, ◌∙◌}
use native.Mathlib.Omega.{arith}
use lib.IntN.{ℤ, pos, negsuc}
use mir.Syntax.{w64}
use mir.Val.{SFits, of_z, to_z}
use mir.Facts.{to_z-of_z}
use borrow.Author.Tests.{ne_eqb}
use Rattle.std.specs.Prelude.{nat_eq}
use Rattle.rules.specs.Shape.{is_kind}
use Rattle.rules.specs.Locks.{is_type}
use Rattle.posix.specs.Records.{IsWord}

abbrev pub again : ℤ → ℤ
again z = to_z w64 (of_z w64 z)

pub read_0 : (z : ℤ) → SFits w64 z → of_z w64 z ≡ 0 → z ≡ pos 0
read_0 z f e = sym (to_z-of_z f) ∙ ap (to_z w64) e

-- ---- a type
pub is_1 : (z : ℤ) → of_z w64 z ≡ 1 → SFits w64 z → nat_eq (of_z w64 z) 1 ≡ is_type z
unfolding is_kind
is_1 z e f = let q : z ≡ pos 1 = sym (to_z-of_z f) ∙ ap (to_z w64) e in rw q

pub is_2_or_none : (z : ℤ) → (of_z w64 z ≡ 1 → ⊥) → SFits w64 z → nat_eq (of_z w64 z) 2 ≡ is_type z
unfolding is_kind
is_2_or_none (pos n) d f = rw (ne_eqb n 1 d)
is_2_or_none (negsuc n) d f = let h = f.sfits in ne_eqb (18446744073709551616 - suc n) 2 (λ e. omega arith)

-- ---- a number of 32 bits
pub word_fits : (z : ℤ) → IsWord z → SFits w64 z
word_fits z w = let h = w.small in rw w.is (record { sfits = omega arith })
