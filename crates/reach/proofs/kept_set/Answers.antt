-- `reach::kept_set` meets its promise.
use Rattle.std.proofs.Common.{◌∙◌, [], rules}
use Rattle.rules.specs.Tables.{tables}
use Rattle.rules.specs.Fetch.{kept}
use Rattle.nodesets.specs.Set.{none}
use Rattle.reach.specs.Walks.{add_all}
use Rattle.reach.proofs.Ways.{links_within, kept_start, kept_ended, kept_spent, kept_skip, kept_join, node_within, next_small}
use Rattle.reach.proofs.kept_set.Goals as goal
use Rattle.reach.proofs.kept_set.Goals.{then-node_word-ne1, else-node_word-ne1}

pub loop-init : goal.loop-init
loop-init g c =
    let lent = c.args.tables.now in (
      next_small lent.sheet lent.nodes _ _ (links_within lent.sheet lent.nodes lent.seats c.are_sound.ensures) c.link-cur.ensures,
      kept_start _ _ _ (add_all none (kept (tables lent.sheet lent.nodes []))) _ c.empty-listed.ensures c.node_count-end.ensures c.link-cur.ensures,
    )

pub returns-then-cur-eq0 : goal.returns-then-cur-eq0
returns-then-cur-eq0 g c = kept_ended _ _ _ _ _ _ c.loop.invariant.1 c.if-cur-eq0.true

pub node_word-requires : goal.node_word-requires
node_word-requires g c = record { is_node = c.if-cur-eq0.false; has_node = c.loop.invariant.0; has_word = search rules }

pub join-requires : goal.join-requires
join-requires g c =
    let lent = c.args.tables.now in
    record { is_node = c.if-cur-eq0.false; fits = node_within lent.sheet lent.nodes _ (links_within lent.sheet lent.nodes lent.seats c.are_sound.ensures) c.loop.invariant.0 }

pub loop-preserved : goal.loop-preserved
loop-preserved g c =
    let lent = c.args.tables.now in
    let gathered = c.loop.invariant.1 in (
      next_small lent.sheet lent.nodes _ _ (links_within lent.sheet lent.nodes lent.seats c.are_sound.ensures) c.next-cur.ensures,
      elim c.if-node_word-ne1.branch [
        | then-node_word-ne1 w ↦ kept_join _ _ _ _ _ _ gathered c.loop-test.true c.if-cur-eq0.false _ _ c.next-cur.ensures c.node_word.ensures _ (w.listed-is ∙ w.join.ensures.1) w.if-node_word-ne1.true
        | else-node_word-ne1 w ↦ rw w.listed-is (kept_skip _ _ _ _ _ _ gathered c.loop-test.true c.if-cur-eq0.false _ _ c.next-cur.ensures c.node_word.ensures (search rules))
      ],
    )

pub returns : goal.returns
returns g c = kept_spent _ _ _ _ _ _ c.loop.invariant.1 c.loop-test.false
