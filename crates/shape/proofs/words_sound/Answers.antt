-- `shape::words_sound` meets its promise.
use Rattle.std.proofs.Common.{arith}
use Rattle.shape.proofs.Tests.{few_seats, title_none, nodes_not, head_not, seats_not, words_are, nodes_of_fit}
use Rattle.shape.proofs.words_sound.Goals as goal

pub overflow_cast-count : goal.overflow_cast-count
overflow_cast-count g c = omega (arith, few_seats _ _ _ _ c.seat_count-count.ensures c.requires)

pub returns-then-title-eq0 : goal.returns-then-title-eq0
returns-then-title-eq0 g c = search title_none

pub of-alone-requires : goal.of-alone-requires
of-alone-requires g c = search nodes_of_fit

pub returns-then-not-nodes_sound : goal.returns-then-not-nodes_sound
returns-then-not-nodes_sound g c = search nodes_not

pub returns-then-not-names : goal.returns-then-not-names
returns-then-not-names g c = search head_not

pub returns-then-not-seats_and_counts_sound : goal.returns-then-not-seats_and_counts_sound
returns-then-not-seats_and_counts_sound g c = search seats_not

pub list_ends-requires : goal.list_ends-requires
list_ends-requires g c = search nodes_of_fit

pub returns : goal.returns
returns g c = search words_are
