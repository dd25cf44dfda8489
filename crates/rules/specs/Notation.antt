-- How the rules are written, beside the library's `if then else`: tests on numbers, and counting over the numbers below a bound. All of it
-- computes.
use Rattle.std.specs.Prelude.{ℕ, zero, suc, ◌+◌, Bool, true, false, ◌&&◌, ◌||◌, eqb, leb, ltb, if◌then◌else◌}

infix 40 ◌is◌ ◌≤?◌ ◌<?◌
abbrev pub ◌is◌ : ℕ → ℕ → Bool
◌is◌ = eqb

abbrev pub ◌≤?◌ : ℕ → ℕ → Bool
◌≤?◌ = leb

abbrev pub ◌<?◌ : ℕ → ℕ → Bool
◌<?◌ = ltb

-- p holds of every number below n
unfoldable pub all : ℕ → (ℕ → Bool) → Bool
all zero p = true
all (suc n) p = all n p && p n

-- p holds of some number below n
unfoldable pub any : ℕ → (ℕ → Bool) → Bool
any zero p = false
any (suc n) p = any n p || p n

-- how many numbers below n have p
unfoldable pub count : ℕ → (ℕ → Bool) → ℕ
count zero p = 0
count (suc n) p = count n p + (if p n then 1 else 0)

-- the lowest of the numbers 1 to n that has p, 0 if none has
unfoldable pub lowest : ℕ → (ℕ → Bool) → ℕ
lowest zero p = 0
lowest (suc n) p =
    if lowest n p is 0 then (if p (suc n) then suc n else 0)
    else lowest n p
