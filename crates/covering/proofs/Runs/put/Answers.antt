-- `covering::Runs::put` meets its promise.
use borrow.Author.Rules.{rules}
use mathlib.Core.Path.{refl, ◌≡◌}
use Prim.Native.Nat.{◌+◌, ◌*◌}
use native.Mathlib.Omega.{arith}
use Rattle.covering.specs.Runs.{run_of}
use Rattle.covering.proofs.Placing.{OneMore, room, put_first, ends_below, put_lower, ends_above, put_higher}
use Rattle.covering.proofs.Runs.put.Goals.{then-is_first, else-is_first+then-run-self, else-is_first+else-run-self}
use Rattle.covering.proofs.Runs.put.Goals as goal

pub put_below-requires-clause-has_place_below : goal.put_below-requires-clause-has_place_below
put_below-requires-clause-has_place_below c = let few = room _ _ _ _ c.self.view_is c.requires.has_room in omega arith

pub put_below-requires-clause-ends : goal.put_below-requires-clause-ends
put_below-requires-clause-ends c = let few = room _ _ _ _ c.self.view_is c.requires.has_room in search ends_below

pub overflow_sub-self : goal.overflow_sub-self
overflow_sub-self c = let few = room _ _ _ _ c.self.view_is c.requires.has_room in omega arith

pub put_above-requires-clause-has_place : goal.put_above-requires-clause-has_place
put_above-requires-clause-has_place c = let few = room _ _ _ _ c.self.view_is c.requires.has_room in omega arith

pub put_above-requires-clause-ends : goal.put_above-requires-clause-ends
put_above-requires-clause-ends c = ends_above _ _ _ _ refl c.self.invariant (room _ _ _ _ c.self.view_is c.requires.has_room) _ (search rules) (search rules)

one_more : (c : goal.After-self-2-1) → OneMore c.self.inside.places c.self.inside.low c.self.inside.count c.args.first c.args.end
    c.if-is_first.self-inside.places c.if-is_first.self-inside.low c.if-is_first.self-inside.count
one_more c =
    let few = room _ _ _ _ c.self.view_is c.requires.has_room in
    let run : c.from.result * 4294967296 + c.from-2.result ≡ run_of c.args.first c.args.end = search rules in
    elim c.if-is_first.branch [
      | then-is_first w ↦ rw w.self-inside-is (put_first _ _ _ _ _ _ (search rules) run c.self.invariant few (search rules))
      | else-is_first+then-run-self w ↦ rw w.self-inside-is (put_lower _ _ _ _ refl c.self.invariant few _ _ (search rules) _ _ (search rules) run (search rules) w.put_below.ensures)
      | else-is_first+else-run-self w ↦ rw w.self-inside-is (put_higher _ _ _ _ refl c.self.invariant few _ (search rules) _ _ _ (search rules) run (search rules) w.put_above.ensures)
    ]

pub invariant_of-self : goal.invariant_of-self
invariant_of-self c = (one_more c).ordered

pub returns-clause-one_more : goal.returns-clause-one_more
returns-clause-one_more c = rw (← c.self.view_is) (one_more c).counted

pub returns-clause-covers_it : goal.returns-clause-covers_it
returns-clause-covers_it c = rw (← c.self.view_is) (one_more c).covers
