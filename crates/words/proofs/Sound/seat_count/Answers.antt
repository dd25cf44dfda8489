-- `words::Sound::seat_count` meets its promise.
use Rattle.std.proofs.Common.{◌≤◌, arith}
use Rattle.rules.proofs.Laws.Shape.{seats_few}
use Rattle.words.proofs.Sound.seat_count.Goals as goal

pub overflow_cast-result : goal.overflow_cast-result
overflow_cast-result g c = let few : c.seat_count.result ≤ 64 = seats_few _ _ _ _ c.seat_count.ensures c.self.invariant in omega arith

pub returns-clause-few : goal.returns-clause-few
returns-clause-few g c = let few : c.seat_count.result ≤ 64 = seats_few _ _ _ _ c.seat_count.ensures c.self.invariant in omega arith
