-- `comparison::compare_claims` meets its promise.
use Rattle.comparison.proofs.Signs.{compare_after, compare_before, compare_clash}
use Rattle.comparison.proofs.compare_claims.Goals as goal

pub returns-then-lies_behind : goal.returns-then-lies_behind
returns-then-lies_behind c = search compare_after

pub returns-then-lies_behind-2 : goal.returns-then-lies_behind-2
returns-then-lies_behind-2 c = search compare_before

pub returns : goal.returns
returns c = search compare_clash
