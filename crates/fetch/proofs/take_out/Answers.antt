-- `fetch::take_out` meets its promise: each turn of its loop takes the walk on by one of the ways of Taking.
use borrow.Author.Rules.{rules}
use Rattle.std.proofs.lemmas.Grind.{common_steps}
use Rattle.fetch.proofs.Taking.{taking_start, taking_left, taking_less, read_skip, read_either, read_next, read_last, read_ended, read_end}
use native.Mathlib.Omega.{arith}
use mathlib.Core.Path.{refl}
use Rattle.fetch.proofs.take_out.Goals as goal

pub loop-cur-init : goal.loop-cur-init
loop-cur-init g c = (refl, search taking_start)

pub next_within-next-requires : goal.next_within-next-requires
next_within-next-requires g c = record { is_node = c.loop-cur-test.true; has_node = c.loop-cur.invariant.1.inside }

pub node_word_within-requires : goal.node_word_within-requires
node_word_within-requires g c = record { is_node = c.loop-cur-test.true; has_node = c.loop-cur.invariant.1.inside; has_word = omega arith }

pub overflow_sub-left : goal.overflow_sub-left
overflow_sub-left g c = search taking_left

pub loop-cur-smaller-then-node_word_within-eq1 : goal.loop-cur-smaller-then-node_word_within-eq1
loop-cur-smaller-then-node_word_within-eq1 g c = search taking_less

pub loop-cur-preserved-then-node_word_within-eq1 : goal.loop-cur-preserved-then-node_word_within-eq1
loop-cur-preserved-then-node_word_within-eq1 g c =
    (search rules, read_skip c.loop-cur.invariant.1 c.loop-cur-test.true c.next_within-next.ensures c.node_word_within.ensures c.if-node_word_within-eq1.true)

pub store_link-requires : goal.store_link-requires
store_link-requires g c =
    let z = read_next c.loop-cur.invariant.1 c.loop-cur-test.true c.next_within-next.ensures c.node_word_within.ensures c.if-node_word_within-eq1.false (search rules) in
    record { list_ends = z.0; is_first_store = z.1 }

pub overflow_sub-left-else-node_word_within-eq1 : goal.overflow_sub-left-else-node_word_within-eq1
overflow_sub-left-else-node_word_within-eq1 g c = search taking_left

pub loop-cur-smaller : goal.loop-cur-smaller
loop-cur-smaller g c = search taking_less

pub loop-cur-preserved : goal.loop-cur-preserved
loop-cur-preserved g c = (
  grind (arith, common_steps),
  read_either c.loop-cur.invariant.1 c.loop-cur-test.true c.next_within-next.ensures c.node_word_within.ensures c.if-node_word_within-eq1.false (grind arith),
)

pub store_link-requires-then-link-ne0 : goal.store_link-requires-then-link-ne0
store_link-requires-then-link-ne0 g c =
    let z = read_last c.loop-cur.invariant.1 c.loop-cur-test.false c.if-link-ne0.true in
    record { list_ends = z.0; is_first_store = z.1 }

pub returns-then-link-ne0 : goal.returns-then-link-ne0
returns-then-link-ne0 g c =
    let z = read_end c.loop-cur.invariant.1 c.loop-cur-test.false c.if-link-ne0.true c.store_link-then-link-ne0.ensures.stored c.store_link-then-link-ne0.ensures.left in
    record { out = z.0; none_left = z.1 }

pub returns-else-link-ne0 : goal.returns-else-link-ne0
returns-else-link-ne0 g c =
    let z = read_ended c.loop-cur.invariant.1 c.loop-cur-test.false c.if-link-ne0.false in
    record { out = z.0; none_left = z.1 }
