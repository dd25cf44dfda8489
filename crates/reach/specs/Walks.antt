-- How the private functions gather nodes into a set, named for their contracts. No rule stands here: proofs/ ties each set to the rules
-- of Reach and Fetch.
use Rattle.std.specs.Prelude.{ℕ, zero, suc, ◌≤◌, Bool, ◌||◌, List, [], ◌∷◌, if◌then◌else◌}
use Rattle.rules.specs.Notation.{◌is◌}
use Rattle.rules.specs.Tables.{Tables, node_count_of, node_count, seat_count, own, prev, cur, link_word}
use Rattle.nodesets.specs.Set.{has, add}

-- every link is 0 or one of the N nodes, which are few enough for a set
pub record Links (sheet : Bool) (nodes : List ℕ) : Type 0 where
  pub few : node_count_of sheet nodes ≤ 256
  pub small : (a : ℕ) → link_word sheet nodes a ≤ node_count_of sheet nodes

-- the nodes met from a join the set; the walk stops at a node that is in it
unfoldable pub reach_from : Bool → ℕ → List ℕ → List ℕ → ℕ → List ℕ
reach_from sheet zero nodes ws a = ws
reach_from sheet (suc hops) nodes ws a =
    if a is 0 || has ws a then ws
    else reach_from sheet hops nodes (add ws a) (link_word sheet nodes a)

-- what seat r reaches joins the set
unfoldable pub reach_seat : ℕ → Tables → List ℕ → ℕ → List ℕ
reach_seat hops t ws r =
    reach_from t.sheet hops t.nodes
    (reach_from t.sheet hops t.nodes (reach_from t.sheet hops t.nodes ws (own t r)) (prev t r)) (cur t r)

-- what the seats below r reach joins the set, seat s left out
unfoldable pub reach_seats : ℕ → Tables → ℕ → List ℕ → ℕ → List ℕ
reach_seats hops t s ws zero = ws
reach_seats hops t s ws (suc r) =
    if r is s then reach_seats hops t s ws r
    else reach_seat hops t (reach_seats hops t s ws r) r

unfoldable pub reach_others : Tables → ℕ → List ℕ → List ℕ
reach_others t s ws = reach_seats (node_count t) t s ws (seat_count t)

-- these nodes join the set
unfoldable pub add_all : List ℕ → List ℕ → List ℕ
add_all ws [] = ws
add_all ws (a ∷ rest) = add_all (add ws a) rest
