-- `words::seats_fit` meets its promise.
use native.Mathlib.Omega.{arith}
use Rattle.words.proofs.Places.{seats_within, seats_fit_is}
use Rattle.words.proofs.seats_fit.Goals as goal

pub overflow_mul-result : goal.overflow_mul-result
overflow_mul-result g c = omega (arith, seats_within _ _ _ _ c.seat_count-s.ensures c.seat_width-width.ensures.words)

pub returns : goal.returns
returns g c = search seats_fit_is
