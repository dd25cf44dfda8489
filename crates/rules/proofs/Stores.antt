-- Request (iv) of document 02: fewer writes when taking nodes out. The stores by which it is done, as specs/Stores.antt lists them, come to what
-- Fetch says, are of the links that differ and of no others, each once, and are the fewest there can be. Of any tables in which the list ends, as it
-- does in every sound one. Nothing else stands here: each proof is a citation.
--
-- That the code makes these stores and no others, in this order, is in the contracts of crates/fetch: there the only function that stores a link for
-- `take_out` asks that what it stores is the first of `stores` of the tables as they stand, and leaves the tables whose stores are the others
-- (`first_made_others_left` below); and when `take_out` ends, none is left.
use Rattle.std.specs.Prelude.{if◌then◌else◌}
use Prim.Native.Nat.{ℕ, suc, ◌≤◌}
use mathlib.Core.Path.{◌≡◌}
use mathlib.Core.Bool.{true}
use mathlib.Core.List.{List, [], ◌∷◌, ◌++◌}
use mathlib.Core.Logic.{◌≢◌}
use lib.ListN.{length}
use Rattle.rules.specs.Notation.{count}
use Rattle.rules.specs.Tables.{Tables, node_count, link, set_link}
use Rattle.rules.specs.Shape.{sound}
use Rattle.rules.specs.Fetch.{taken_out}
use Rattle.rules.specs.Stores.{Store, stores, ListEnds, store_all, times_to, differs, marked_listed}
use Rattle.rules.proofs.Laws.Shape.{is_sound}
use Rattle.rules.proofs.Laws.Stores as laws
use Rattle.rules.proofs.Laws.StoreCounts as counts

pub ends_if_sound : (t : Tables) → sound t ≡ true → ListEnds t
ends_if_sound t e = (is_sound t e).ends

-- ---- "What the tables hold afterwards .. stays": made one after the other, they come to what Fetch says
pub come_to_taken_out : (t : Tables) → ListEnds t → store_all t (stores t) ≡ taken_out t
come_to_taken_out = laws.come_to

-- ---- "Store only the links that differ": one store to each of them and none to any other; none is stored twice
pub once_if_it_differs : (t : Tables) → ListEnds t → (a : ℕ) → times_to a (stores t) ≡ (if differs t a then 1 else 0)
once_if_it_differs = counts.once_if_it_differs

pub none_twice : (t : Tables) → ListEnds t → (a : ℕ) → times_to a (stores t) ≤ 1
none_twice = laws.none_twice

-- as many as there are links that differ, the head's and those of the N nodes
pub as_many_as_differ : (t : Tables) → sound t ≡ true → length (stores t) ≡ count (suc (node_count t)) (differs t)
as_many_as_differ t e = counts.as_many_as_differ t (is_sound t e)

-- no stores of links that come to the same are fewer, to any one link or in all
pub fewest_to_each : (t : Tables) → ListEnds t → (others : List Store) → store_all t others ≡ taken_out t → (a : ℕ) → times_to a (stores t) ≤ times_to a others
fewest_to_each = counts.fewest_to

pub fewest : (t : Tables) → ListEnds t → (others : List Store) → store_all t others ≡ taken_out t → length (stores t) ≤ length others
fewest = counts.fewest

-- and no more than there are marked nodes to take out
pub at_most_marked : (t : Tables) → ListEnds t → length (stores t) ≤ marked_listed t
at_most_marked = counts.at_most_marked

-- ---- one after the other
-- once the first is made, the others are what is left, on a list that ends; so it is after any part of them
pub first_made_others_left : (t : Tables) → ListEnds t → {x : Store} {others : List Store} → stores t ≡ x ∷ others
    → (stores (set_link t x.whose x.value) ≡ others) × ListEnds (set_link t x.whose x.value)
first_made_others_left t e p = (laws.others_left t e p, laws.still_ends t e p)

pub part_made_rest_left : (t : Tables) → ListEnds t → (part rest : List Store) → stores t ≡ part ++ rest → stores (store_all t part) ≡ rest
part_made_rest_left t e part rest p = (laws.part_way part t e rest p).left

pub none_left : (t : Tables) → ListEnds t → stores (taken_out t) ≡ []
none_left = laws.none_left

-- what each stores differs from what stands there: before any of them is made, and when its turn comes; and it is what stands there in the end
pub differs_before : (t : Tables) → ListEnds t → (part rest : List Store) (x : Store) → stores t ≡ part ++ (x ∷ rest) → x.value ≢ link t x.whose
differs_before = laws.differs_before

pub differs_at_its_turn : (t : Tables) → ListEnds t → (part rest : List Store) (x : Store) → stores t ≡ part ++ (x ∷ rest)
    → x.value ≢ link (store_all t part) x.whose
differs_at_its_turn t e part rest x p = laws.first_differs (store_all t part) x rest (part_made_rest_left t e part (x ∷ rest) p)

pub stands_in_the_end : (t : Tables) → ListEnds t → (part rest : List Store) (x : Store) → stores t ≡ part ++ (x ∷ rest)
    → link (taken_out t) x.whose ≡ x.value
stands_in_the_end = laws.stands_in_the_end
