-- The test `free` against following links: a node passes it exactly if it is reached neither from the head nor from a seat other than the one
-- that asks. Of any tables whose links and places lead to no node past the last.
use Prim.Native.Nat.{ℕ, ◌≤◌, ◌<◌}
use mathlib.Core.Path.{◌≡◌, refl}
use mathlib.Core.Bool.{Bool, true, false, not, ◌&&◌, ◌||◌}
use mathlib.Core.Logic.{◌≢◌, inl, inr}
use borrow.Author.Tests.{eq-eqb, ne_eqb}
use Rattle.rules.specs.Notation.{◌is◌}
use Rattle.rules.specs.Tables.{Tables, node_count, seat_count, link, head, own, prev, cur}
use Rattle.rules.specs.Shape.{sound}
use Rattle.rules.specs.Reach.{Reach, met, listed, seat_reaches, others_reach, free, Unreached}
use Rattle.rules.proofs.Ground.Logic.{or_neither, neither, not_true, of_not, not_of, and_not, and_left, and_right, any_none, any_of_none, clash}
use Rattle.rules.proofs.Laws.Shape.{Sound, is_sound, name_small}
use Rattle.rules.proofs.Laws.Listed.{met_reach, reach_met}

-- ---- seat r meets x nowhere
pub record Misses (t : Tables) (r x : ℕ) : Type 0 where
  pub from_own : met (node_count t) t (own t r) x ≡ false
  pub from_prev : met (node_count t) t (prev t r) x ≡ false
  pub from_cur : met (node_count t) t (cur t r) x ≡ false

module _ (t : Tables) (x r : ℕ) where
  abbrev by_own : Bool
  by_own = met (node_count t) t (own t r) x

  abbrev by_prev : Bool
  by_prev = met (node_count t) t (prev t r) x

  abbrev by_cur : Bool
  by_cur = met (node_count t) t (cur t r) x

  reaches_nothing : seat_reaches t r x ≡ false → Misses t r x
  unfolding seat_reaches
  reaches_nothing e =
      let k = or_neither (by_own || by_prev) by_cur e in
      let l = or_neither by_own by_prev k.0 in
      record { from_own = l.0; from_prev = l.1; from_cur = k.1 }

  misses_all : Misses t r x → seat_reaches t r x ≡ false
  unfolding seat_reaches
  misses_all m = neither (by_own || by_prev) by_cur (neither by_own by_prev m.from_own m.from_prev) m.from_cur

module _ (t : Tables) (s x : ℕ) where
  abbrev by_other : ℕ → Bool
  by_other r = not (r is s) && seat_reaches t r x

  pub others_miss : (r : ℕ) → others_reach t s x ≡ false → r < seat_count t → r ≢ s → Misses t r x
  unfolding others_reach
  others_miss r e h d = elim (and_not (not (r is s)) (seat_reaches t r x) (any_none (seat_count t) r by_other e h)) [
    | inl q ↦ absurd (clash (not (r is s)) (of_not (r is s) (ne_eqb r s d)) q)
    | inr q ↦ reaches_nothing t x r q
  ]

  all_miss : ((r : ℕ) → r < seat_count t → r ≢ s → Misses t r x) → others_reach t s x ≡ false
  unfolding others_reach
  all_miss f = any_of_none (seat_count t) by_other (λ r h. not_of (by_other r) (λ e.
      clash (seat_reaches t r x) (and_right (not (r is s)) (seat_reaches t r x) e)
      (misses_all t x r (f r h (λ q. clash (r is s) (rw q (same_is s)) (not_true (r is s) (and_left (not (r is s)) (seat_reaches t r x) e)))))))
    where
      same_is : (a : ℕ) → (a is a) ≡ true
      same_is a = eq-eqb a a refl

-- ---- in sound tables nothing leads past the last node
module _ (t : Tables) (e : sound t ≡ true) where
  abbrev shape : Sound t
  shape = is_sound t e

  pub links_small : (b : ℕ) → link t b ≤ node_count t
  links_small b = name_small t (link t b) (shape.link_names b)

  pub sound_reach_met : (a x : ℕ) → a ≤ node_count t → Reach (link t) x a → met (node_count t) t a x ≡ true
  sound_reach_met a x l r = reach_met t x (node_count t) links_small l r

  pub reach_listed : (x : ℕ) → Reach (link t) x (head t) → listed t x ≡ true
  unfolding listed
  reach_listed x r = sound_reach_met (head t) x (links_small 0) r

  module _ (s x : ℕ) where
    not_met : (a : ℕ) → a ≤ node_count t → met (node_count t) t a x ≡ false → Reach (link t) x a → ⊥
    not_met a l m r = clash (met (node_count t) t a x) (sound_reach_met a x l r) m

    pub free_unreached : free t s x ≡ true → Unreached t s x
    unfolding free listed
    free_unreached f =
        let q = or_neither (met (node_count t) t (head t) x) (others_reach t s x) (not_true (met (node_count t) t (head t) x || others_reach t s x) f) in
        record {
          off_list = not_met (head t) (links_small 0) q.0;
          not_from_own = λ r h d. not_met (own t r) (name_small t (own t r) (shape.seat r).own_names) (others_miss t s x r q.1 h d).from_own;
          not_from_prev = λ r h d. not_met (prev t r) (name_small t (prev t r) (shape.seat r).prev_names) (others_miss t s x r q.1 h d).from_prev;
          not_from_cur = λ r h d. not_met (cur t r) (name_small t (cur t r) (shape.seat r).cur_names) (others_miss t s x r q.1 h d).from_cur;
        }

    never_met : (a : ℕ) → (Reach (link t) x a → ⊥) → met (node_count t) t a x ≡ false
    never_met a f = not_of (met (node_count t) t a x) (λ m. f (met_reach t x (node_count t) a m))

    pub unreached_free : Unreached t s x → free t s x ≡ true
    unfolding free listed
    unreached_free u =
        of_not (met (node_count t) t (head t) x || others_reach t s x)
        (neither (met (node_count t) t (head t) x) (others_reach t s x) (never_met (head t) u.off_list)
        (all_miss t s x (λ r h d. record {
          from_own = never_met (own t r) (u.not_from_own r h d);
          from_prev = never_met (prev t r) (u.not_from_prev r h d);
          from_cur = never_met (cur t r) (u.not_from_cur r h d);
        })))
