-- Small laws of Bool, of choices and of tests over the numbers below a bound, that the others cite.
use Rattle.std.specs.Prelude.{if◌then◌else◌}
use mathlib.Core.Path.{◌≡◌, refl, sym, ◌∙◌}
use mathlib.Core.Bool.{Bool, true, false, ◌&&◌, ◌||◌, not, true≢false}
use mathlib.Core.Logic.{◌⊎◌, inl, inr, ⊎_elim}
use Prim.Native.Nat.{ℕ, zero, suc, ◌<◌}
use native.Mathlib.Omega.{arith}
use native.Mathlib.Nat.{eq-or-lt_of_le}
use Rattle.rules.specs.Notation.{all, any}

pub either : (b : Bool) → (b ≡ true) ⊎ (b ≡ false)
either true = inl refl
either false = inr refl

-- two Bools are equal if each being true makes the other true
pub same : (a b : Bool) → (a ≡ true → b ≡ true) → (b ≡ true → a ≡ true) → a ≡ b
same true b f g = sym (f refl)
same false true f g = g refl
same false false f g = refl

pub or_left : (a b : Bool) → a ≡ true → (a || b) ≡ true
or_left true b e = refl
or_left false b e = absurd (true≢false (sym e))

pub or_right : (a b : Bool) → b ≡ true → (a || b) ≡ true
or_right true b e = refl
or_right false b e = e

pub or_case : (a b : Bool) → (a || b) ≡ true → (a ≡ true) ⊎ (b ≡ true)
or_case true b e = inl refl
or_case false b e = inr e

pub and_left : (a b : Bool) → (a && b) ≡ true → a ≡ true
and_left true b e = refl
and_left false b e = e

pub and_right : (a b : Bool) → (a && b) ≡ true → b ≡ true
and_right true b e = e
and_right false b e = absurd (true≢false (sym e))

pub and_both : (a b : Bool) → a ≡ true → b ≡ true → (a && b) ≡ true
and_both true b e f = f
and_both false b e f = absurd (true≢false (sym e))

pub clash : (b : Bool) → b ≡ true → b ≡ false → ⊥
clash b e f = true≢false (sym e ∙ f)

pub not_of : (b : Bool) → (b ≡ true → ⊥) → b ≡ false
not_of true h = absurd (h refl)
not_of false h = refl

pub both : (a b : Bool) → (a && b) ≡ true → (a ≡ true) × (b ≡ true)
both a b e = (and_left a b e, and_right a b e)

pub all3 : (a b c : Bool) → (a && b && c) ≡ true → (a ≡ true) × (b ≡ true) × (c ≡ true)
all3 a b c e = let f = and_left (a && b) c e in (and_left a b f, and_right a b f, and_right (a && b) c e)

pub all4 : (a b c d : Bool) → (a && b && c && d) ≡ true → (a ≡ true) × (b ≡ true) × (c ≡ true) × (d ≡ true)
all4 a b c d e =
    let f = and_left (a && b && c) d e in
    let g = and_left (a && b) c f in
    (and_left a b g, and_right a b g, and_right (a && b) c f, and_right (a && b && c) d e)

pub all5 : (a b c d f : Bool) → (a && b && c && d && f) ≡ true → (a ≡ true) × (b ≡ true) × (c ≡ true) × (d ≡ true) × (f ≡ true)
all5 a b c d f e = let w = all4 a b c d (and_left (a && b && c && d) f e) in (w.0, w.1, w.2, w.3, and_right (a && b && c && d) f e)

pub all6 : (a b c d f g : Bool) → (a && b && c && d && f && g) ≡ true → (a ≡ true) × (b ≡ true) × (c ≡ true) × (d ≡ true) × (f ≡ true) × (g ≡ true)
all6 a b c d f g e = let w = all5 a b c d f (and_left (a && b && c && d && f) g e) in (w.0, w.1, w.2, w.3, w.4, and_right (a && b && c && d && f) g e)

pub all7 : (a b c d f g h : Bool) → (a && b && c && d && f && g && h) ≡ true → (a ≡ true) × (b ≡ true) × (c ≡ true) × (d ≡ true) × (f ≡ true) × (g ≡ true) × (h ≡ true)
all7 a b c d f g h e =
    let w = all6 a b c d f g (and_left (a && b && c && d && f && g) h e) in
    (w.0, w.1, w.2, w.3, w.4, w.5, and_right (a && b && c && d && f && g) h e)

pub and_not : (a b : Bool) → (a && b) ≡ false → (a ≡ false) ⊎ (b ≡ false)
and_not true b e = inr e
and_not false b e = inl refl

pub or_neither : (a b : Bool) → (a || b) ≡ false → (a ≡ false) × (b ≡ false)
or_neither true b e = absurd (true≢false e)
or_neither false b e = (refl, e)

pub neither : (a b : Bool) → a ≡ false → b ≡ false → (a || b) ≡ false
neither true b e f = absurd (true≢false e)
neither false b e f = f

pub not_true : (b : Bool) → not b ≡ true → b ≡ false
not_true true e = absurd (true≢false (sym e))
not_true false e = refl

pub of_not : (b : Bool) → b ≡ false → not b ≡ true
of_not true e = absurd (true≢false e)
of_not false e = refl

-- a choice, with what each branch knows
pub branch {ℓ} : {A : Type 0} (P : A → Type ℓ) (b : Bool) {x y : A} → (b ≡ true → P x) → (b ≡ false → P y) → P (if b then x else y)
branch P true f g = f refl
branch P false f g = g refl

-- ---- over the numbers below a bound
pub all_at : (n i : ℕ) (p : ℕ → Bool) → all n p ≡ true → i < n → p i ≡ true
unfolding all
all_at zero i p e h = absurd (omega arith)
all_at (suc n) i p e h =
    ⊎_elim
    (λ q. rw q (and_right (all n p) (p n) e))
    (λ q. all_at n i p (and_left (all n p) (p n) e) q)
    (eq-or-lt_of_le {n = i} {m = n} (omega arith))

pub all_of : (n : ℕ) (p : ℕ → Bool) → ((i : ℕ) → i < n → p i ≡ true) → all n p ≡ true
unfolding all
all_of zero p f = refl
all_of (suc n) p f = and_both (all n p) (p n) (all_of n p (λ i h. f i (omega arith))) (f n (omega arith))

pub all_fails : (n i : ℕ) (p : ℕ → Bool) → i < n → p i ≡ false → all n p ≡ false
all_fails n i p h e = not_of (all n p) (λ a. clash (p i) (all_at n i p a h) e)

pub all_alike : (n : ℕ) (p q : ℕ → Bool) → ((i : ℕ) → p i ≡ q i) → all n p ≡ all n q
unfolding all
all_alike zero p q h = refl
all_alike (suc n) p q h = rw (all_alike n p q h, h n)

-- two tests in one pass
pub all_and : (n : ℕ) (p q : ℕ → Bool) → all n (λ i. p i && q i) ≡ (all n p && all n q)
all_and n p q =
    same (all n (λ i. p i && q i)) (all n p && all n q)
    (λ e. and_both (all n p) (all n q)
    (all_of n p (λ i h. and_left (p i) (q i) (all_at n i (λ i. p i && q i) e h)))
    (all_of n q (λ i h. and_right (p i) (q i) (all_at n i (λ i. p i && q i) e h))))
    (λ e. all_of n (λ i. p i && q i) (λ i h. and_both (p i) (q i) (all_at n i p (and_left (all n p) (all n q) e) h) (all_at n i q (and_right (all n p) (all n q) e) h)))

pub any_none : (n i : ℕ) (p : ℕ → Bool) → any n p ≡ false → i < n → p i ≡ false
unfolding any
any_none zero i p e h = absurd (omega arith)
any_none (suc n) i p e h =
    ⊎_elim
    (λ q. rw q (or_neither (any n p) (p n) e).1)
    (λ q. any_none n i p (or_neither (any n p) (p n) e).0 q)
    (eq-or-lt_of_le {n = i} {m = n} (omega arith))

pub any_of_none : (n : ℕ) (p : ℕ → Bool) → ((i : ℕ) → i < n → p i ≡ false) → any n p ≡ false
unfolding any
any_of_none zero p f = refl
any_of_none (suc n) p f = neither (any n p) (p n) (any_of_none n p (λ i h. f i (omega arith))) (f n (omega arith))
