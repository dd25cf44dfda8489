-- `posix::first_bad` meets its promise: each record before the place has passed.
use Prim.Native.Nat.{ℕ, ◌<◌}
use Rattle.std.specs.Prelude.{Ok}
use Rattle.posix.proofs.first_bad.Given as goal

abbrev pub invariant-loop-place : goal.invariant-loop-place
invariant-loop-place g l = (i : ℕ) → i < l.place-counter → goal.F-post g l.look i (Ok tt)
