-- `words::seat_words` meets its promise.
use native.Mathlib.Omega.{arith}
use native.Mathlib.Nat.{mul-le-mul_right}
use Rattle.words.proofs.seat_words.Goals as goal

pub overflow_mul-result : goal.overflow_mul-result
overflow_mul-result g c = omega (arith, mul-le-mul_right c.args.s c.seat_width.ensures.few)

pub returns : goal.returns
returns g c = cc
