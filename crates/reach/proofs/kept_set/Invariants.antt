-- `reach::kept_set` meets its promise.
use Rattle.reach.specs.Walks.{add_all}
use Rattle.nodesets.specs.Set.{none}
use Rattle.rules.specs.Fetch.{kept_from, kept}
use Rattle.rules.specs.Tables.{tables, node_count}
use Rattle.std.proofs.Common.{◌≡◌, ◌-◌, ◌≤◌, []}
use Rattle.reach.proofs.kept_set.Given as goal

abbrev pub invariant-loop : goal.invariant-loop
invariant-loop g l =
    (l.cur ≤ node_count l.tables)
    × (add_all l.listed (kept_from (l.end - l.counter) (tables l.tables.sheet l.tables.nodes []) l.cur) ≡ add_all none (kept (tables l.tables.sheet l.tables.nodes [])))
