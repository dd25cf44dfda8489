-- The tests `met` and `ends_within` against following links. What is met is reached and, where no link leads past N and the hops are N, the other
-- way round, also if the walk goes round in a circle. A walk ends within so many hops if it passes at most as many nodes.
use Rattle.std.specs.Prelude.{if◌then◌else◌}
use Prim.Native.Nat.{ℕ, zero, suc, ◌≤◌, ◌<◌}
use mathlib.Core.Path.{◌≡◌, refl}
use mathlib.Core.Bool.{true, false, not, ◌||◌}
use mathlib.Core.Logic.{◌≢◌, inl, inr}
use native.Mathlib.Omega.{arith}
use borrow.Author.Tests.{eqb-true, eqb-false, eq-eqb, ne_eqb}
use Rattle.rules.specs.Notation.{◌is◌}
use Rattle.rules.specs.Tables.{Tables, link, next}
use Rattle.rules.specs.Shape.{ends_within}
use Rattle.rules.specs.Reach.{met, Reach, here, there}
use Rattle.rules.proofs.Ground.Logic.{branch, both, and_both, or_case, or_left, or_right, not_true, of_not, clash}
use Rattle.rules.proofs.Ground.Following.{not_from_0, beyond, Ends, stop, more}
use Rattle.rules.proofs.Ground.Pigeonhole.{short}
use Rattle.rules.proofs.Ground.Deciding.{if_same}

-- ---- a walk cut at x: it ends there, so that it passes no node twice
module _ (link : ℕ → ℕ) (x : ℕ) where
  abbrev cut : ℕ → ℕ
  cut a = if a is x then 0 else link a

  cut_ends : {a : ℕ} → Reach link x a → (k : ℕ) × Ends cut a k
  cut_ends (here h) = (1, more {n = 0} h (rw (eq-eqb x x refl) stop))
  cut_ends (there {a = a} h r) =
      if_same a x
      (λ e. (1, more {n = 0} h (rw (eq-eqb a x e) stop)))
      (λ d. let q = cut_ends r in (suc q.0, more {n = q.0} h (rw (ne_eqb a x d) q.1)))

  cut_small : (N : ℕ) → ((b : ℕ) → link b ≤ N) → (b : ℕ) → cut b ≤ N
  cut_small N small b = branch (λ v. v ≤ N) (b is x) (λ e. omega arith) (λ e. small b)

module _ (t : Tables) (x : ℕ) where
  pub met_reach : (h a : ℕ) → met h t a x ≡ true → Reach (link t) x a
  unfolding met
  met_reach zero a e = absurd (clash false e refl)
  met_reach (suc h) a e =
      let q = both (not (a is 0)) (a is x || met h t (next t a) x) e in
      let z = eqb-false a 0 (not_true (a is 0) q.0) in
      let pos : 0 < a = omega arith in
      elim (or_case (a is x) (met h t (next t a) x) q.1) [
        | inl p ↦ let y = eqb-true a x p in rw y (here (rw y at pos))
        | inr p ↦ there pos (met_reach h (next t a) p)
      ]

  pub met_first : (h a : ℕ) → a ≢ 0 → (a is x || met h t (next t a) x) ≡ true → met (suc h) t a x ≡ true
  unfolding met
  met_first h a z e = and_both (not (a is 0)) (a is x || met h t (next t a) x) (of_not (a is 0) (ne_eqb a 0 z)) e

  -- a node is met from itself
  pub met_here : (h : ℕ) → 0 < h → x ≢ 0 → met h t x x ≡ true
  met_here zero p z = absurd (omega arith)
  met_here (suc h) p z = met_first h x z (or_left (x is x) (met h t (next t x) x) (eq-eqb x x refl))

  -- what is reached is met within the hops, if the walk that is cut at x ends within them
  cut_met : {a k : ℕ} → Ends (cut (link t) x) a k → (h : ℕ) → k ≤ h → Reach (link t) x a → met h t a x ≡ true
  cut_met stop h l r = absurd (not_from_0 r refl)
  cut_met (more p e) zero l r = absurd (omega arith)
  cut_met (more {a = a} p e) (suc h) l r =
      if_same a x
      (λ q. rw q (met_here (suc h) (omega arith) (omega arith)))
      (λ d. let uncut = ne_eqb a x d in
      let further = rw uncut at (cut_met e h (omega arith) (rw uncut (beyond d r))) in
      met_first h a (omega arith) (or_right (a is x) (met h t (next t a) x) further))

  -- where no link leads past N, N hops are enough
  pub reach_met : (N : ℕ) → ((b : ℕ) → link t b ≤ N) → {a : ℕ} → a ≤ N → Reach (link t) x a → met N t a x ≡ true
  reach_met N small l r = let q = cut_ends (link t) x r in cut_met q.1 N (short N (cut_small (link t) x N small) l q.1) r

-- ---- where the list ends
pub ends_within_law : (t : Tables) {a k : ℕ} → Ends (link t) a k → (h : ℕ) → k ≤ h → ends_within h t a ≡ true
unfolding ends_within
ends_within_law t stop zero l = refl
ends_within_law t stop (suc h) l = refl
ends_within_law t (more p e) zero l = absurd (omega arith)
ends_within_law t (more {a = a} p e) (suc h) l = or_right (a is 0) (ends_within h t (next t a)) (ends_within_law t e h (omega arith))

pub within_ends : (t : Tables) (h a : ℕ) → ends_within h t a ≡ true → (k : ℕ) × Ends (link t) a k × (k ≤ h)
unfolding ends_within
within_ends t zero a e = rw (eqb-true a 0 e) (0, stop, omega arith)
within_ends t (suc h) a e =
    if_same a 0
    (λ z. rw z (0, stop, omega arith))
    (λ d. let on : ends_within h t (next t a) ≡ true =
    elim (or_case (a is 0) (ends_within h t (next t a)) e) [ inl z ↦ absurd (d (eqb-true a 0 z)) | inr q ↦ q ] in
    let rest = within_ends t h (next t a) on in
    (suc rest.0, more (omega arith) rest.1, omega arith))
