-- What the library's own types mean, as those who meet them need it: a refusal has a number that is not 0, and there is no node where the rules say 0.
use Prim.Native.Nat.{ℕ, zero, suc}
use mathlib.Core.Path.{◌≡◌, refl, sym}
use mathlib.Core.Logic.{◌≢◌}
use native.Mathlib.Omega.{arith}
use Rattle.std.specs.Prelude.{None, Some}
use Rattle.rules.specs.Means.{number_of, node_if_any}
use Rattle.rules.specs.declared.Refused.{Refused}
use Rattle.rules.specs.declared.Refused.TheVariants.{Damaged, NoSuchSeat, NoFrames, UnknownKind, HasClaim, HasNoClaim, NotHolding, NoNodeFree, NoRoom, NotWellFormed, BeyondTitle, NoSuchRun, UnknownType, NotReserved}

pub some_number : (why : Refused) → number_of why ≢ 0
some_number Damaged = λ e. omega arith
some_number NoSuchSeat = λ e. omega arith
some_number NoFrames = λ e. omega arith
some_number UnknownKind = λ e. omega arith
some_number HasClaim = λ e. omega arith
some_number HasNoClaim = λ e. omega arith
some_number NotHolding = λ e. omega arith
some_number NoNodeFree = λ e. omega arith
some_number NoRoom = λ e. omega arith
some_number NotWellFormed = λ e. omega arith
some_number BeyondTitle = λ e. omega arith
some_number NoSuchRun = λ e. omega arith
some_number UnknownType = λ e. omega arith
some_number NotReserved = λ e. omega arith

pub no_node : (n : ℕ) → None ≡ node_if_any n → n ≡ 0
unfolding node_if_any
no_node zero e = refl
no_node (suc m) e = cc

pub some_node : (n a : ℕ) → Some a ≡ node_if_any n → (n ≡ a) × (a ≢ 0)
unfolding node_if_any
some_node zero a e = cc
some_node (suc m) a e = let same : a ≡ suc m = cc in (cc, λ z. omega arith)

pub named : (n a : ℕ) → n ≡ a → a ≢ 0 → Some a ≡ node_if_any n
unfolding node_if_any
named zero a e z = absurd (z (sym e))
named (suc m) a e z = cc
