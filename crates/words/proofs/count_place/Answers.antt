-- `words::count_place` meets its promise.
use Rattle.words.proofs.Places.{readers_at_law, writers_at_law}
use Rattle.words.proofs.count_place.Goals as goal

pub returns-then-kind-eq1 : goal.returns-then-kind-eq1
returns-then-kind-eq1 c = search readers_at_law

pub returns : goal.returns
returns c = search writers_at_law
