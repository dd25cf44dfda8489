-- Fetch: a free node for a seat's claim, with the taking out of marked nodes where none is free at first.
use Rattle.std.specs.Prelude.{ℕ, zero, suc, List, [], ◌∷◌, if◌then◌else◌}
use Rattle.rules.specs.Notation.{◌is◌}
use Rattle.rules.specs.Tables.{Tables, node_count, start_at, end_at, kind_at, set_node, set_link, set_mark, set_phase, set_own, set_prev, set_cur, marked, next, head}
use Rattle.rules.specs.Comparison.{Claim}
use Rattle.rules.specs.Reach.{lowest_free}

-- the unmarked nodes from a on
unfoldable pub kept_from : ℕ → Tables → ℕ → List ℕ
kept_from zero t a = []
kept_from (suc hops) t a =
    if a is 0 then []
    else if marked t a then kept_from hops t (next t a)
    else a ∷ kept_from hops t (next t a)

unfoldable pub kept : Tables → List ℕ
kept t = kept_from (node_count t) t (head t)

-- prev and each of the nodes then link to the one that follows, the last to 0
unfoldable pub link_through : Tables → ℕ → List ℕ → Tables
link_through t prev [] = set_link t prev 0
link_through t prev (a ∷ rest) = link_through (set_link t prev a) a rest

-- "the marked nodes on the list are .. taken out (head and the unmarked listed nodes then link to the next unmarked one;
-- marked nodes keep their next)"
unfoldable pub taken_out : Tables → Tables
taken_out t = link_through t 0 (kept t)

-- "The node gets the claim, next 0, mark 0"
unfoldable pub write_claim : Tables → ℕ → Claim → Tables
write_claim t a c =
    set_mark (set_link (set_node kind_at (set_node end_at (set_node start_at t a c.start) a c.end) a c.kind) a 0) a 0

-- 02 (vii): "puts the seat in a new phase 7, prev and cur 0"; the node is its own
unfoldable pub reserve_for : Tables → ℕ → ℕ → Tables
reserve_for t s a = set_cur (set_prev (set_own (set_phase t s 7) s a) s 0) s 0

unfoldable pub take_node : Tables → ℕ → ℕ → Claim → Tables
take_node t s a c = reserve_for (write_claim t a c) s a

-- the node taken, or 0 if none was free, and the tables afterwards
pub record Fetched : Type 0 where
  pub node : ℕ
  pub after : Tables

abbrev pub fetched : ℕ → Tables → Fetched
fetched node after = record { node = node; after = after }

-- "and the rule is tried again; if none is free then, .. nothing has changed."
unfoldable pub fetch_again : Tables → ℕ → Claim → Fetched
fetch_again t s c =
    if lowest_free (taken_out t) s is 0 then fetched 0 t
    else fetched (lowest_free (taken_out t) s) (take_node (taken_out t) s (lowest_free (taken_out t) s) c)

-- "The lowest free node is taken. If none is free, the marked nodes on the list are first taken out"
unfoldable pub fetch : Tables → ℕ → Claim → Fetched
fetch t s c =
    if lowest_free t s is 0 then fetch_again t s c
    else fetched (lowest_free t s) (take_node t s (lowest_free t s) c)
