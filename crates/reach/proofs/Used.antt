-- The used nodes as a set: what the list and the other seats reach, gathered by walks that stop, is the complement of the rule's free nodes.
use Prim.Native.Nat.{ℕ, zero, suc, ◌≤◌}
use mathlib.Core.Path.{◌≡◌, sym, ◌∙◌}
use mathlib.Core.Bool.{Bool, false, ◌&&◌, ◌||◌, not, or-false, or_assoc}
use mathlib.Core.List.{List}
use mathlib.Core.Logic.{⊎_elim}
use lib.ListN.{length}
use Rattle.rules.specs.Notation.{◌is◌, any}
use Rattle.rules.specs.Tables.{Tables, node_count, seat_count, head, own, prev, cur}
use Rattle.rules.specs.Reach.{met, listed, seat_reaches, others_reach, free}
use Rattle.rules.proofs.Ground.Logic.{either, clash}
use Rattle.rules.proofs.Laws.Shape.{Sound, name_small}
use Rattle.nodesets.specs.Set.{has, none}
use Rattle.nodesets.proofs.Set.{has_none, none_length}
use Rattle.reach.specs.Walks.{Links, reach_from, reach_seat, reach_seats, reach_others}
use Rattle.reach.proofs.Walk.{Closed, closed_nearly, reach_has, reach_closed, reach_length}

-- ---- a set in the making, and what joins it
pub record Grown (t : Tables) (ws : List ℕ) : Type 0 where
  pub four : length ws ≡ 4
  pub closed : Closed t ws

pub record Joins (t : Tables) (ws vs : List ℕ) (p : ℕ → Bool) : Type 0 where
  pub grown : Grown t vs
  pub members : (x : ℕ) → has vs x ≡ (has ws x || p x)

none_closed : (t : Tables) → Closed t none
unfolding Closed
none_closed t a e = absurd (clash (has none a) e (has_none a))

pub none_grown : (t : Tables) → Grown t none
none_grown t = record { four = none_length; closed = none_closed t }

pub joins_nothing : (t : Tables) (ws : List ℕ) → Grown t ws → Joins t ws ws (λ x. false)
joins_nothing t ws g = record { grown = g; members = λ x. sym (or-false (has ws x)) }

pub joins_then : (t : Tables) (us vs ws : List ℕ) (p q : ℕ → Bool) → Joins t us vs p → Joins t vs ws q → Joins t us ws (λ x. p x || q x)
joins_then t us vs ws p q j k =
    record { grown = k.grown; members = λ x. k.members x ∙ rw (j.members x) (or_assoc (has us x) (p x) (q x)) }

-- ---- every name in the tables is 0 or one of the N nodes
pub record Named (t : Tables) : Type 0 where
  pub links : Links t.sheet t.nodes
  pub own_small : (r : ℕ) → own t r ≤ node_count t
  pub prev_small : (r : ℕ) → prev t r ≤ node_count t
  pub cur_small : (r : ℕ) → cur t r ≤ node_count t

pub sound_named : (t : Tables) → Sound t → Named t
sound_named t w =
    record {
      links = record { few = w.few_nodes; small = λ a. name_small t _ (w.link_names a) };
      own_small = λ r. name_small t _ (w.seat r).own_names;
      prev_small = λ r. name_small t _ (w.seat r).prev_names;
      cur_small = λ r. name_small t _ (w.seat r).cur_names;
    }

module _ (t : Tables) (n : Named t) where
  pub joins_walk : (ws : List ℕ) (a : ℕ) → a ≤ node_count t → Grown t ws → Joins t ws (reach_from t.sheet (node_count t) t.nodes ws a) (met (node_count t) t a)
  joins_walk ws a h g =
      record {
        grown = record { four = reach_length t.sheet (node_count t) t.nodes ws a ∙ g.four; closed = reach_closed t n.links ws a g.four h g.closed };
        members = λ x. reach_has t n.links (node_count t) ws a x g.four h (closed_nearly t ws a g.closed);
      }

  joins_seat : (ws : List ℕ) (r : ℕ) → Grown t ws → Joins t ws (reach_seat (node_count t) t ws r) (seat_reaches t r)
  unfolding reach_seat seat_reaches
  joins_seat ws r g =
      let i = joins_walk ws (own t r) (n.own_small r) g in
      let j = joins_walk _ (prev t r) (n.prev_small r) i.grown in
      joins_then t _ _ _ _ _ (joins_then t _ _ _ _ _ i j) (joins_walk _ (cur t r) (n.cur_small r) j.grown)

  pub joins_seats : (ws : List ℕ) (s r : ℕ) → Grown t ws → Joins t ws (reach_seats (node_count t) t s ws r) (λ x. any r (λ r. not (r is s) && seat_reaches t r x))
  unfolding reach_seats any
  joins_seats ws s zero g = joins_nothing t ws g
  joins_seats ws s (suc r) g =
      let j = joins_seats ws s r g in
      ⊎_elim
      (λ e. rw e (joins_then t _ _ _ _ _ j (joins_nothing t _ j.grown)))
      (λ e. rw e (joins_then t _ _ _ _ _ j (joins_seat _ r j.grown)))
      (either (r is s))

  pub joins_others : (ws : List ℕ) (s : ℕ) → Grown t ws → Joins t ws (reach_others t s ws) (others_reach t s)
  unfolding reach_others others_reach
  joins_others ws s g = joins_seats ws s (seat_count t) g

  pub joins_list : Joins t none (reach_from t.sheet (node_count t) t.nodes none (head t)) (listed t)
  unfolding listed
  joins_list = joins_walk none (head t) (n.links.small 0) (none_grown t)

  pub used_free : (s x : ℕ) → not (has (reach_others t s (reach_from t.sheet (node_count t) t.nodes none (head t))) x) ≡ free t s x
  unfolding free
  used_free s x =
      let j = joins_then t _ _ _ _ _ joins_list (joins_others _ s joins_list.grown) in
      rw (j.members x, has_none x)
