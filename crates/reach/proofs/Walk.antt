-- A walk along next that stops at a node of the set gives what the rule `met` gives, over any links, circles too: the set stays closed
-- under next but for the node where the walk stands, and each hop adds one of N nodes.
use Prim.Native.Nat.{ℕ, zero, suc, ◌+◌, ◌-◌, ◌≤◌}
use mathlib.Core.Path.{◌≡◌, refl, sym, ap, ◌∙◌}
use mathlib.Core.Bool.{Bool, true, false, ◌||◌, or-false}
use mathlib.Core.List.{List}
use mathlib.Core.Logic.{◌≢◌, ◌⊎◌, inl, inr, ⊎_elim}
use native.Mathlib.Omega.{arith}
use native.Mathlib.Numerals.{add-one}
use lib.ListN.{length}
use borrow.Author.Tests.{eq-eqb, ne_eqb, eqb-true, eqb-false}
use Rattle.rules.specs.Notation.{◌is◌}
use Rattle.rules.specs.Tables.{Tables, node_count, next}
use Rattle.rules.specs.Reach.{met}
use Rattle.rules.proofs.Ground.Logic.{either, or_left, or_right, or_case, or_neither, clash}
use Rattle.rules.proofs.Ground.Counting.{count_full, count_more}
use Rattle.nodesets.specs.Set.{has, add, members}
use Rattle.nodesets.proofs.Set.{has_add, add_length}
use Rattle.reach.specs.Walks.{Links, reach_from}

-- ---- the rule, by its ways on
pub met_none : (t : Tables) (a x : ℕ) → met 0 t a x ≡ false
unfolding met
met_none t a x = refl

pub met_zero : (h : ℕ) (t : Tables) (a x : ℕ) → a ≡ 0 → met h t a x ≡ false
unfolding met
met_zero zero t a x e = refl
met_zero (suc h) t a x e = rw (eq-eqb a 0 e)

pub met_next : (h : ℕ) (t : Tables) (a x : ℕ) → a ≢ 0 → met (suc h) t a x ≡ (a is x || met h t (next t a) x)
unfolding met
met_next h t a x z = rw (ne_eqb a 0 z)

-- what is met from a is a itself or met from its next
pub met_case : (h : ℕ) (t : Tables) (a x : ℕ) → met (suc h) t a x ≡ true → (a ≢ 0) × ((a ≡ x) ⊎ (met h t (next t a) x ≡ true))
met_case h t a x e =
    let z : a ≢ 0 = λ q. clash (met (suc h) t a x) e (met_zero (suc h) t a x q) in
    (z, ⊎_elim (λ y. inl (eqb-true a x y)) inr (or_case (a is x) (met h t (next t a) x) (sym (met_next h t a x z) ∙ e)))

-- ---- a set closed under next
abbrev pub inside : List ℕ → ℕ → Bool
inside ws a = a is 0 || has ws a

pub outside : (ws : List ℕ) (a : ℕ) → inside ws a ≡ false → (a ≢ 0) × (has ws a ≡ false)
outside ws a e = let w = or_neither (a is 0) (has ws a) e in (eqb-false a 0 w.0, w.1)

unfoldable pub Closed : Tables → List ℕ → Type 0
Closed t ws = (a : ℕ) → has ws a ≡ true → inside ws (next t a) ≡ true

-- closed but for b, where the walk stands
unfoldable pub Nearly : Tables → List ℕ → ℕ → Type 0
Nearly t ws b = (a : ℕ) → has ws a ≡ true → (inside ws (next t a) ≡ true) ⊎ (next t a ≡ b)

pub closed_nearly : (t : Tables) (ws : List ℕ) (b : ℕ) → Closed t ws → Nearly t ws b
unfolding Nearly Closed
closed_nearly t ws b c a e = inl (c a e)

nearly_closed : (t : Tables) (ws : List ℕ) (b : ℕ) → Nearly t ws b → inside ws b ≡ true → Closed t ws
unfolding Nearly Closed
nearly_closed t ws b n i a e = ⊎_elim (λ q. q) (λ q. rw q i) (n a e)

-- closedness depends on the members alone
pub closed_alike : (t : Tables) (ws vs : List ℕ) → ((x : ℕ) → has vs x ≡ has ws x) → Closed t ws → Closed t vs
unfolding Closed
closed_alike t ws vs f c a e = rw (f (next t a)) (c a (sym (f a) ∙ e))

-- what is met from a member of a closed set is a member
pub closed_met : (h : ℕ) (t : Tables) (ws : List ℕ) (a x : ℕ) → Closed t ws → inside ws a ≡ true → met h t a x ≡ true → has ws x ≡ true
unfolding Closed
closed_met zero t ws a x c i e = absurd (clash (met 0 t a x) e (met_none t a x))
closed_met (suc h) t ws a x c i e =
    let w = met_case h t a x e in
    let m : has ws a ≡ true = ⊎_elim (λ y. absurd (w.0 (eqb-true a 0 y))) (λ y. y) (or_case (a is 0) (has ws a) i) in
    ⊎_elim (λ q. rw (← q) m) (λ y. closed_met h t ws (next t a) x c (c a m) y) w.1

-- ---- one node joins
module _ (ws : List ℕ) (a : ℕ) (four : length ws ≡ 4) (some : a ≢ 0) (most : a ≤ 256) where
  pub add_has : has (add ws a) a ≡ true
  add_has = has_add ws a a four some most ∙ or_left (a is a) (has ws a) (eq-eqb a a refl)

  pub add_keeps : (x : ℕ) → has ws x ≡ true → has (add ws a) x ≡ true
  add_keeps x e = has_add ws a x four some most ∙ or_right (a is x) (has ws x) e

  inside_keeps : (x : ℕ) → inside ws x ≡ true → inside (add ws a) x ≡ true
  inside_keeps x e =
      ⊎_elim
      (λ z. or_left (x is 0) (has (add ws a) x) z)
      (λ z. or_right (x is 0) (has (add ws a) x) (add_keeps x z))
      (or_case (x is 0) (has ws x) e)

  nearly_add : (t : Tables) → Nearly t ws a → Nearly t (add ws a) (next t a)
  unfolding Nearly
  nearly_add t n b e =
      ⊎_elim
      (λ z. let q : a ≡ b = eqb-true a b z in inr (ap (next t) (sym q)))
      (λ z. ⊎_elim
      (λ y. inl (inside_keeps (next t b) y))
      (λ y. inl (or_right (next t b is 0) (has (add ws a) (next t b)) (rw y add_has)))
      (n b z))
      (or_case (a is b) (has ws b) (sym (has_add ws a b four some most) ∙ e))

  pub members_add : (n : ℕ) → a ≤ n → has ws a ≡ false → suc (members ws n) ≤ members (add ws a) n
  unfolding members
  members_add n h e =
      let q : a - 1 + 1 ≡ a = omega arith in
      count_more n (λ m. has ws (m + 1)) (λ m. has (add ws a) (m + 1)) (a - 1) (λ m y. add_keeps (m + 1) y) (omega arith) (rw q e) (rw q add_has)

pub swap : (a b c : Bool) → ((a || b) || c) ≡ (b || (a || c))
swap true true c = refl
swap true false c = refl
swap false b c = refl

module _ (t : Tables) (s : Links t.sheet t.nodes) where
  absorb : (a b : Bool) → (b ≡ true → a ≡ true) → a ≡ (a || b)
  absorb true b h = refl
  absorb false true h = h refl
  absorb false false h = refl

  -- stopping loses nothing
  pub reach_has : (h : ℕ) (ws : List ℕ) (a x : ℕ) → length ws ≡ 4 → a ≤ node_count t → Nearly t ws a → has (reach_from t.sheet h t.nodes ws a) x ≡ (has ws x || met h t a x)
  unfolding reach_from
  reach_has zero ws a x f b n = rw (met_none t a x) (sym (or-false (has ws x)))
  reach_has (suc h) ws a x f b n =
      ⊎_elim
      (λ z. rw z (absorb (has ws x) (met (suc h) t a x) (closed_met (suc h) t ws a x (nearly_closed t ws a n z) z)))
      (λ z. let p = (outside ws a z).0 in
      let w : a ≤ 256 = omega (arith, s.few) in
      rw z (reach_has h (add ws a) (next t a) x (add_length ws a ∙ f) (s.small a) (nearly_add ws a f p w t n)
      ∙ rw (has_add ws a x f p w, met_next h t a x p) (swap (a is x) (has ws x) (met h t (next t a) x))))
      (either (inside ws a))

  full_closed : (ws : List ℕ) → node_count t ≤ members ws (node_count t) → Closed t ws
  unfolding Closed members
  full_closed ws f a e = at (next t a) (s.small a)
    where
      at : (b : ℕ) → b ≤ node_count t → inside ws b ≡ true
      at zero h = refl
      at (suc m) h = or_right (suc m is 0) (has ws (suc m)) (rw (add-one m) at (count_full (node_count t) (λ m. has ws (m + 1)) m f (omega arith)))

  -- each hop adds a node, so that with N hops the set is closed in the end
  reach_closes : (h : ℕ) (ws : List ℕ) (a : ℕ) → length ws ≡ 4 → a ≤ node_count t → Nearly t ws a → node_count t ≤ h + members ws (node_count t) → Closed t (reach_from t.sheet h t.nodes ws a)
  unfolding reach_from
  reach_closes zero ws a f b n g = full_closed ws (omega arith)
  reach_closes (suc h) ws a f b n g =
      ⊎_elim
      (λ z. rw z (nearly_closed t ws a n z))
      (λ z. let y = outside ws a z in
      let w : a ≤ 256 = omega (arith, s.few) in
      let i = members_add ws a f y.0 w (node_count t) b y.1 in
      rw z (reach_closes h (add ws a) (next t a) (add_length ws a ∙ f) (s.small a) (nearly_add ws a f y.0 w t n) (omega arith)))
      (either (inside ws a))

  pub reach_closed : (ws : List ℕ) (a : ℕ) → length ws ≡ 4 → a ≤ node_count t → Closed t ws → Closed t (reach_from t.sheet (node_count t) t.nodes ws a)
  reach_closed ws a f b c = reach_closes (node_count t) ws a f b (closed_nearly t ws a c) (omega arith)

pub reach_length : (sheet : Bool) (h : ℕ) (nodes ws : List ℕ) (a : ℕ) → length (reach_from sheet h nodes ws a) ≡ length ws
unfolding reach_from
reach_length sheet zero nodes ws a = refl
reach_length sheet (suc h) nodes ws a = ⊎_elim (λ z. rw z) (λ z. rw z (reach_length sheet h nodes (add ws a) _ ∙ add_length ws a)) (either (inside ws a))
