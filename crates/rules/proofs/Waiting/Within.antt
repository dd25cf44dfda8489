-- Something holds after at most so many steps of a given kind. Over any step; assumes nothing of the rules but their tables.
use Prim.Native.Nat.{ℕ, zero, suc, ◌+◌, ◌≤◌, ◌<◌}
use native.Mathlib.Omega.{arith}
use Rattle.rules.specs.Tables.{Tables, link}
use Rattle.rules.proofs.Ground.Following.{Ends}

pub data Within (next : Tables → Tables) (P : Tables → Type 0) : ℕ → Tables → Type 0 where
  now : {k : ℕ} {t : Tables} → P t → Within next P k t
  later : {k : ℕ} {t : Tables} → Within next P k (next t) → Within next P (suc k) t

module _ {next : Tables → Tables} where
  pub more_time : {P : Tables → Type 0} {k l : ℕ} {t : Tables} → k ≤ l → Within next P k t → Within next P l t
  more_time h (now p) = now p
  more_time {l = zero} h (later w) = absurd (omega arith)
  more_time {l = suc l} h (later {k = k} w) = later {k = l} (more_time {k = k} (omega arith) w)

  pub and_then : {P Q : Tables → Type 0} {k : ℕ} (l : ℕ) {t : Tables} → Within next P k t → ((u : Tables) → P u → Within next Q l u) → Within next Q (k + l) t
  and_then {k = k} l {t} (now p) f = more_time {k = l} {l = k + l} (omega arith) (f t p)
  and_then l (later {k = k} w) f = more_time {k = suc (k + l)} {l = suc k + l} (omega arith) (later {k = k + l} (and_then l w f))

  pub then_now : {P Q : Tables → Type 0} {k : ℕ} {t : Tables} → Within next P k t → ((u : Tables) → P u → Q u) → Within next Q k t
  then_now (now p) f = now (f _ p)
  then_now (later {k = k} w) f = later {k = k} (then_now w f)

-- what each step keeps holds then too
pub within_keeps : {next : Tables → Tables} {P : Tables → Type 0} (K : Tables → Type 0) → ((t : Tables) → K t → K (next t))
    → {k : ℕ} {t : Tables} → K t → Within next P k t → Within next (λ u. P u × K u) k t
within_keeps K keeps q (now p) = now (p, q)
within_keeps K keeps q (later {k = k} w) = later {k = k} (within_keeps K keeps (keeps _ q) w)

-- a walk along a chain that each step shortens: as many steps as the chain has nodes, and one
pub along_chain : {next : Tables → Tables} {P R : Tables → Type 0} (at : Tables → ℕ)
    → ((m k : ℕ) (t : Tables) → R t → Ends (link t) (at t) k
    → ((u : Tables) → R u → (j : ℕ) → Ends (link u) (at u) j → j < k → Within next P m u) → Within next P (suc m) t)
    → (m : ℕ) (t : Tables) → R t → (k : ℕ) → Ends (link t) (at t) k → k ≤ m → Within next P (suc m) t
along_chain at body zero t r k e h = body 0 k t r e (λ u ru j eu l. absurd (omega arith))
along_chain at body (suc m) t r k e h = body (suc m) k t r e (λ u ru j eu l. along_chain at body m u ru j eu (omega arith))
