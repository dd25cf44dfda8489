-- What two nodes share, as one law for each way through the code.
use Rattle.std.specs.Prelude.{max, min}
use Prim.Native.Nat.{ℕ}
use mathlib.Core.Path.{◌≡◌, ◌∙◌}
use native.Mathlib.Omega.{arith}
use borrow.Author.Tests.{leb-true, leb-false}
use Rattle.rules.specs.Notation.{◌≤?◌}
use Rattle.rules.specs.Comparison.{Claim, later, earlier, run_or_none, shared}
use Rattle.rules.specs.declared.SharedRun.{SharedRun}
use Rattle.rules.proofs.Ground.Logic.{branch}

-- the later of two starts, and the earlier of two ends
later_is : (a b : ℕ) → max a b ≡ later a b
later_is a b = branch (λ r. max a b ≡ r) (a ≤? b) (λ e. let h = leb-true a b e in omega arith) (λ e. let h = leb-false a b e in omega arith)

earlier_is : (a b : ℕ) → min a b ≡ earlier a b
earlier_is a b = branch (λ r. min a b ≡ r) (b ≤? a) (λ e. let h = leb-true b a e in omega arith) (λ e. let h = leb-false b a e in omega arith)

pub shared_is : (c o c' o' : Claim) (first end : ℕ) (r : SharedRun) → r ≡ run_or_none first end → end ≡ min c.end o.end → first ≡ max c.start o.start → o ≡ o' → c ≡ c' → r ≡ shared c' o'
shared_is c o c' o' first end r p q f is_o is_c = p ∙ rw (← is_c, ← is_o, q, f, later_is c.start o.start, earlier_is c.end o.end)
