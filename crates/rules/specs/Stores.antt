-- Request (iv) of document 02, "Store only the links that differ": the stores by which marked nodes are taken out, as a list that computes. What
-- the tables hold afterwards is said in Fetch, and no rule uses this: proofs/Stores.antt ties the two, and `fetch::take_out` makes just these
-- stores, in this order.
use Rattle.std.specs.Prelude.{ℕ, zero, suc, ◌+◌, ◌≡◌, Bool, true, not, List, [], ◌∷◌, if◌then◌else◌}
use Rattle.rules.specs.Notation.{◌is◌}
use Rattle.rules.specs.Tables.{Tables, node_count, marked, link, next, head, set_link}
use Rattle.rules.specs.Shape.{ends_within}
use Rattle.rules.specs.Fetch.{kept, taken_out}

-- one store to a link: whose link it is, 0 for the head, and its new value
pub record Store : Type 0 where
  pub whose : ℕ
  pub value : ℕ

abbrev pub store : ℕ → ℕ → Store
store whose value = record { whose = whose; value = value }

-- "head and the unmarked listed nodes then link to the next unmarked one", the last to 0, and "Store only the links that differ": from prev on,
-- along the nodes that stay, one store for each link that does not stand so already
unfoldable pub stores_along : Tables → ℕ → List ℕ → List Store
stores_along t prev [] =
    if link t prev is 0 then []
    else store prev 0 ∷ []
stores_along t prev (a ∷ rest) =
    if link t prev is a then stores_along t a rest
    else store prev a ∷ stores_along t a rest

unfoldable pub stores : Tables → List Store
stores t = stores_along t 0 (kept t)

-- ---- the words in which proofs/Stores.antt speaks of them
-- "from the head, 0 is met after at most N nodes", as in every sound table
abbrev pub ListEnds : Tables → Type 0
ListEnds t = ends_within (node_count t) t (head t) ≡ true

-- the tables once these stores are made, one after the other
unfoldable pub store_all : Tables → List Store → Tables
store_all t [] = t
store_all t (x ∷ rest) = store_all (set_link t x.whose x.value) rest

-- how many of them go to the link of a
unfoldable pub times_to : ℕ → List Store → ℕ
times_to a [] = 0
times_to a (x ∷ rest) = times_to a rest + (if x.whose is a then 1 else 0)

-- the link of a is another once the marked nodes are taken out
abbrev pub differs : Tables → ℕ → Bool
differs t a = not (link (taken_out t) a is link t a)

-- how many marked nodes there are from a on
unfoldable pub marked_from : ℕ → Tables → ℕ → ℕ
marked_from zero t a = 0
marked_from (suc hops) t a =
    if a is 0 then 0
    else (if marked t a then 1 else 0) + marked_from hops t (next t a)

unfoldable pub marked_listed : Tables → ℕ
marked_listed t = marked_from (node_count t) t (head t)
