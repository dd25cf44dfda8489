-- A walk that ends passes at most N nodes, if every link is at most N: it meets no node twice. Assumes nothing of the tables.
use mathlib.Core.Path.{◌≡◌, refl, ap}
use mathlib.Core.List.{List, [], ◌∷◌}
use mathlib.Core.Logic.{◌≢◌}
use Prim.Native.Nat.{ℕ, zero, suc, ◌≤◌, ◌<◌}
use native.Mathlib.Omega.{arith}
use lib.ListN.{length}
use Rattle.rules.proofs.Ground.Deciding.{if_same}
use Rattle.rules.proofs.Ground.Following.{Ends, stop, more, no_circle}
use Rattle.rules.specs.Reach.{Reach, here, there}

-- x is not in the list
pub data Off (x : ℕ) : List ℕ → Type 0 where
  off_none : Off x []
  off_more : {y : ℕ} {l : List ℕ} → x ≢ y → Off x l → Off x (y ∷ l)

-- no two alike, all of 1 to N
data Unlike (N : ℕ) : List ℕ → Type 0 where
  unlike_none : Unlike N []
  unlike_more : {y : ℕ} {l : List ℕ} → 0 < y → y ≤ N → Off y l → Unlike N l → Unlike N (y ∷ l)

-- the list without its N + 1, if that is in it
record Without (N : ℕ) (l : List ℕ) : Type 0 where
  rest : List ℕ
  unlike : Unlike N rest
  one_less : length l ≤ suc (length rest)
  still_off : (x : ℕ) → Off x l → Off x rest

lower : {N : ℕ} {l : List ℕ} → Off (suc N) l → Unlike (suc N) l → Unlike N l
lower o unlike_none = unlike_none
lower (off_more k o) (unlike_more p q f u) = unlike_more p (omega arith) f (lower o u)

without : {N : ℕ} {l : List ℕ} → Unlike (suc N) l → Without N l
without unlike_none = record { rest = []; unlike = unlike_none; one_less = omega arith; still_off = λ x o. o }
without {N} (unlike_more {y = y} {l = l} p q f u) =
    let h = without u in
    if_same y (suc N)
    (λ e. record { rest = l; unlike = lower (rw e at f) u; one_less = omega arith; still_off = λ x o. tail_off o })
    (λ k. record {
      rest = y ∷ h.rest;
      unlike = unlike_more p (omega arith) (h.still_off y f) h.unlike;
      one_less = let z = h.one_less in omega arith;
      still_off = λ x o. off_more (head_off o) (h.still_off x (tail_off o));
    })
  where
    tail_off : {x z : ℕ} {m : List ℕ} → Off x (z ∷ m) → Off x m
    tail_off (off_more k o) = o

    head_off : {x z : ℕ} {m : List ℕ} → Off x (z ∷ m) → x ≢ z
    head_off (off_more k o) = k

at_most : (N : ℕ) {l : List ℕ} → Unlike N l → length l ≤ N
at_most zero unlike_none = omega arith
at_most zero (unlike_more p q f u) = absurd (omega arith)
at_most (suc N) u = let h = without u in let k = at_most N h.unlike in let z = h.one_less in omega arith

-- the nodes of a walk
passed : {link : ℕ → ℕ} {a k : ℕ} → Ends link a k → List ℕ
passed stop = []
passed (more {a = a} h e) = a ∷ passed e

passed_length : {link : ℕ → ℕ} {a k : ℕ} (e : Ends link a k) → length (passed e) ≡ k
unfolding passed
passed_length stop = refl
passed_length (more h e) = ap suc (passed_length e)

passed_off : {link : ℕ → ℕ} {a k : ℕ} (x : ℕ) (e : Ends link a k) → (Reach link x a → ⊥) → Off x (passed e)
unfolding passed
passed_off x stop f = off_none
passed_off x (more {a = a} h e) f = off_more (λ q. f (rw q (here h))) (passed_off x e (λ r. f (there h r)))

passed_unlike : {link : ℕ → ℕ} {a k N : ℕ} → ((b : ℕ) → link b ≤ N) → a ≤ N → (e : Ends link a k) → Unlike N (passed e)
unfolding passed
passed_unlike f l stop = unlike_none
passed_unlike f l (more {a = a} h e) = unlike_more h l (passed_off a e (no_circle (more h e) h)) (passed_unlike f (f a) e)

pub short : {link : ℕ → ℕ} {a k : ℕ} (N : ℕ) → ((b : ℕ) → link b ≤ N) → a ≤ N → Ends link a k → k ≤ N
short N f l e = let u = at_most N (passed_unlike f l e) in let z = passed_length e in omega arith
