-- "cannot be reached by following next": the tests of specs/Reach.antt follow it over N nodes at the most, and lose nothing by it, in any sound
-- table, one with circles off the list too. Nothing else stands here; each proof is a citation.
use Prim.Native.Nat.{ℕ, ◌≤◌}
use mathlib.Core.Path.{◌≡◌}
use mathlib.Core.Bool.{true}
use Rattle.rules.specs.Tables.{Tables, node_count, link, head}
use Rattle.rules.specs.Shape.{sound}
use Rattle.rules.specs.Reach as test
use Rattle.rules.specs.Reach.{Reach, Unreached}
use Rattle.rules.proofs.Laws.Listed.{met_reach}
use Rattle.rules.proofs.Laws.Free as laws
use Rattle.rules.proofs.Keeping.Hops.{on_list}

-- ---- what is met is reached, in any tables and over any number of hops
pub met_is_reached : (t : Tables) (hops a x : ℕ) → test.met hops t a x ≡ true → Reach (link t) x a
met_is_reached t hops a x = met_reach t x hops a

-- and what is reached, however far off, is met within N hops
pub reached_is_met : (t : Tables) → sound t ≡ true → (a x : ℕ) → a ≤ node_count t → Reach (link t) x a → test.met (node_count t) t a x ≡ true
reached_is_met = laws.sound_reach_met

-- ---- so a node is listed exactly if it is reached from the head
pub listed_is_reached : (t : Tables) (x : ℕ) → test.listed t x ≡ true → Reach (link t) x (head t)
listed_is_reached = on_list

pub reached_is_listed : (t : Tables) → sound t ≡ true → (x : ℕ) → Reach (link t) x (head t) → test.listed t x ≡ true
reached_is_listed = laws.reach_listed

-- ---- and free exactly if it is not, nor from any other seat's own, prev or cur
pub free_is_unreached : (t : Tables) → sound t ≡ true → (s x : ℕ) → test.free t s x ≡ true → Unreached t s x
free_is_unreached = laws.free_unreached

pub unreached_is_free : (t : Tables) → sound t ≡ true → (s x : ℕ) → Unreached t s x → test.free t s x ≡ true
unreached_is_free = laws.unreached_free
