-- `reach::reach` meets its promise.
use Rattle.std.proofs.Common.{arith}
use Rattle.reach.proofs.Ways.{node_within, links_within, next_small, reach_end, reach_stop, reach_last, reach_on}
use Rattle.reach.proofs.+reach.Goals as goal

pub returns-then-a-eq0 : goal.returns-then-a-eq0
returns-then-a-eq0 g t c = search reach_end

pub join-requires-clause-fits : goal.join-requires-clause-fits
join-requires-clause-fits g t c = let lent = c.args.tables.now in node_within lent.sheet lent.nodes _ (links_within lent.sheet lent.nodes lent.seats c.are_sound.ensures) c.requires.is_node_or_0

pub reach-requires : goal.reach-requires
reach-requires g t c =
    let lent = c.args.tables.now in
    λ κs outlives. (
      omega (arith, c.requires.some_hops),
      (
        outlives,
        (next_small lent.sheet lent.nodes _ _ (links_within lent.sheet lent.nodes lent.seats c.are_sound.ensures) c.next.ensures, omega (arith, c.requires.some_hops)),
      ),
    )

pub returns-then-join : goal.returns-then-join
returns-then-join g t c = search reach_stop

pub returns-then-hops-eq1 : goal.returns-then-hops-eq1
returns-then-hops-eq1 g t c = search reach_last

pub returns : goal.returns
returns g t c = search reach_on
