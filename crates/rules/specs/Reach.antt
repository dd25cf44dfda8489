-- What is on the list, what a seat can reach, and which nodes are free.
use Rattle.std.specs.Prelude.{ℕ, zero, suc, ◌+◌, ◌<◌, Bool, false, not, ◌&&◌, ◌||◌, List, [], ◌∷◌, ◌≢◌, if◌then◌else◌}
use Rattle.rules.specs.Notation.{◌is◌, any, count, lowest}
use Rattle.rules.specs.Tables.{Tables, node_count, seat_count, link, next, head, own, prev, cur}

-- x "can be reached by following next .. (those nodes included)" from a, over any number of nodes. 0 is no node, so nothing is reached
-- from it, nor through it.
pub data Reach (link : ℕ → ℕ) (x : ℕ) : ℕ → Type 0 where
  here : 0 < x → Reach link x x
  there : {a : ℕ} → 0 < a → Reach link x (link a) → Reach link x a

-- the same as a test: x is met from a among the first `hops` nodes. With N hops nothing is lost: proofs/Reaching.antt says so of every sound
-- table, one with circles off the list too.
unfoldable pub met : ℕ → Tables → ℕ → ℕ → Bool
met zero t a x = false
met (suc hops) t a x = not (a is 0) && (a is x || met hops t (next t a) x)

-- the nodes from a on, in order, up to 0
unfoldable pub nodes_from : ℕ → Tables → ℕ → List ℕ
nodes_from zero t a = []
nodes_from (suc hops) t a = if a is 0 then [] else a ∷ nodes_from hops t (next t a)

-- the list, marked nodes too
unfoldable pub list_of : Tables → List ℕ
list_of t = nodes_from (node_count t) t (head t)

unfoldable pub listed : Tables → ℕ → Bool
listed t x = met (node_count t) t (head t) x

-- x can be reached "from .. seat's own, prev or cur"
unfoldable pub seat_reaches : Tables → ℕ → ℕ → Bool
seat_reaches t r x =
    met (node_count t) t (own t r) x
    || met (node_count t) t (prev t r) x
    || met (node_count t) t (cur t r) x

-- some seat other than s reaches x: "The asking seat's own words do not count."
unfoldable pub others_reach : Tables → ℕ → ℕ → Bool
others_reach t s x = any (seat_count t) (λ r. not (r is s) && seat_reaches t r x)

-- "A node is free if it is not on the list and cannot be reached by following next from any other seat's own, prev or cur"
unfoldable pub free : Tables → ℕ → ℕ → Bool
free t s x = not (listed t x || others_reach t s x)

-- the same by following next over any number of nodes
pub record Unreached (t : Tables) (s x : ℕ) : Type 0 where
  pub off_list : Reach (link t) x (head t) → ⊥
  pub not_from_own : (r : ℕ) → r < seat_count t → r ≢ s → Reach (link t) x (own t r) → ⊥
  pub not_from_prev : (r : ℕ) → r < seat_count t → r ≢ s → Reach (link t) x (prev t r) → ⊥
  pub not_from_cur : (r : ℕ) → r < seat_count t → r ≢ s → Reach (link t) x (cur t r) → ⊥

-- "The lowest free node"; 0 if none is free
unfoldable pub lowest_free : Tables → ℕ → ℕ
lowest_free t s = lowest (node_count t) (free t s)

-- "how many nodes are free, .. by the rule above with every seat counted": no seat has the number S, so none is left out
unfoldable pub count_free : Tables → ℕ
count_free t = count (node_count t) (λ m. free t (seat_count t) (m + 1))
