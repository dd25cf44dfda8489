-- `words::seat_place` meets its promise.
use native.Mathlib.Omega.{arith}
use native.Mathlib.Nat.{mul-le-mul_right}
use Rattle.words.proofs.seat_place.Goals as goal

pub overflow_mul-result : goal.overflow_mul-result
overflow_mul-result g c = omega (arith, mul-le-mul_right c.args.s c.seat_width.ensures.few)

pub overflow_add-result : goal.overflow_add-result
overflow_add-result g c = omega (arith, mul-le-mul_right c.args.s c.seat_width.ensures.few)

pub returns : goal.returns
returns g c = record { place = cc; small = omega (arith, mul-le-mul_right c.args.s c.seat_width.ensures.few) }
