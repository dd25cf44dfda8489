-- What two claims share is the whole of what both cover, and where the comparison of claims that have frames gives 0, that is some frame which one
-- of them writes.
use Prim.Native.Nat.{ℕ, ◌-◌, ◌≤◌, ◌<◌}
use mathlib.Core.Path.{◌≡◌, refl, subst}
use mathlib.Core.Logic.{◌⊎◌, inl, inr}
use native.Mathlib.Omega.{arith}
use native.Mathlib.Decide.{dec_le}
use lib.IntN.{ℤ, pos}
use borrow.Author.Tests.{leb-true, leb-false, lt-ltb, le-ltb}
use Rattle.rules.specs.Notation.{◌≤?◌}
use Rattle.rules.specs.Comparison.{Claim, compare, later, earlier, shared_run, run_or_none, shared}
use Rattle.rules.specs.Refusing.{Proper}
use Rattle.rules.specs.Apart.{Covers}
use Rattle.rules.specs.Shared.{WholeShared, NoneShared, Clash}
use Rattle.rules.specs.declared.SharedRun.{SharedRun}
use Rattle.rules.proofs.Ground.Logic.{branch}
use Rattle.rules.proofs.Laws.Compared.{Precedes, apart, readers, Compared, after, before, clashing, compared}

-- ---- the later of two starts, and the earlier of two ends
record Later (a b m : ℕ) : Type 0 where
  from_first : a ≤ m
  from_second : b ≤ m
  least : (f : ℕ) → a ≤ f → b ≤ f → m ≤ f

later_is : (a b : ℕ) → Later a b (later a b)
later_is a b =
    branch (Later a b) (a ≤? b)
    (λ e. record { from_first = leb-true a b e; from_second = omega arith; least = λ f p q. q })
    (λ e. let h = leb-false a b e in record { from_first = omega arith; from_second = omega arith; least = λ f p q. p })

record Earlier (a b m : ℕ) : Type 0 where
  to_first : m ≤ a
  to_second : m ≤ b
  most : (f : ℕ) → f < a → f < b → f < m

earlier_is : (a b : ℕ) → Earlier a b (earlier a b)
earlier_is a b =
    branch (Earlier a b) (b ≤? a)
    (λ e. record { to_first = leb-true b a e; to_second = omega arith; most = λ f p q. q })
    (λ e. let h = leb-false b a e in record { to_first = omega arith; to_second = omega arith; most = λ f p q. p })

-- ---- a run from first up to end, if that is some frame
pub some_run : (first end : ℕ) → first < end → shared_run first end ≡ run_or_none first end
unfolding run_or_none
some_run first end h = rw (lt-ltb first end h)

pub no_run_law : (first end : ℕ) → end ≤ first → shared_run 0 0 ≡ run_or_none first end
unfolding run_or_none
no_run_law first end h = rw (le-ltb first end h)

either_run : (P : SharedRun → Type 0) (first end : ℕ) → (first < end → P (shared_run first end)) → (end ≤ first → P (shared_run 0 0)) → P (run_or_none first end)
either_run P first end some none = elim (dec_le end first) [
  | yes h ↦ subst P (no_run_law first end h) (none h)
  | no h ↦ let k : first < end = omega arith in subst P (some_run first end k) (some k)
]

-- ---- the run is the whole of what both cover, of any two claims
module _ (c o : Claim) where
  abbrev from : ℕ
  from = later c.start o.start

  abbrev to : ℕ
  to = earlier c.end o.end

  within : (f : ℕ) → Covers c f → Covers o f → (from ≤ f) × (f < to)
  within f p q = ((later_is c.start o.start).least f p.0 q.0, (earlier_is c.end o.end).most f p.1 q.1)

  covered : (f : ℕ) → from ≤ f → f < to → Covers c f × Covers o f
  covered f p q =
      let l = later_is c.start o.start in
      let m = earlier_is c.end o.end in
      let l₁ = l.from_first in
      let l₂ = l.from_second in
      let m₁ = m.to_first in
      let m₂ = m.to_second in
      ((omega arith, omega arith), (omega arith, omega arith))

  pub shared_whole : WholeShared c o (shared c o).first (shared c o).end
  shared_whole =
      either_run (λ (r : SharedRun). WholeShared c o r.first r.end) _ _
      (λ h. record { covered_by_both = covered; no_other = within })
      (λ h. record { covered_by_both = λ f p q. absurd (omega arith); no_other = λ f p q. let w = within f p q in absurd (omega arith) })

  pub shared_some : (f : ℕ) → Covers c f → Covers o f → (shared c o).first < (shared c o).end
  shared_some f p q = let w = shared_whole.no_other f p q in omega arith

  pub shared_none : NoneShared c o → shared c o ≡ shared_run 0 0
  shared_none z =
      either_run (λ (r : SharedRun). r ≡ shared_run 0 0) _ _
      (λ h. let w = covered from (omega arith) h in absurd (z from w.0 w.1))
      (λ h. refl)

  -- no other pair is
  module _ (first end : ℕ) (h : first < end) (w : WholeShared c o first end) where
    both_at : (f : ℕ) → first ≤ f → f < end → ((shared c o).first ≤ f) × (f < (shared c o).end)
    both_at f p q = let k = w.covered_by_both f p q in shared_whole.no_other f k.0 k.1

    there_at : (f : ℕ) → (shared c o).first ≤ f → f < (shared c o).end → (first ≤ f) × (f < end)
    there_at f p q = let k = shared_whole.covered_by_both f p q in w.no_other f k.0 k.1

    pub shared_only : (first ≡ (shared c o).first) × (end ≡ (shared c o).end)
    shared_only =
        let p = both_at first (omega arith) h in
        let q = both_at (end - 1) (omega arith) (omega arith) in
        let x = there_at (shared c o).first (omega arith) (omega arith) in
        let y = there_at ((shared c o).end - 1) (omega arith) (omega arith) in
        (omega arith, omega arith)

-- ---- neither claim lies before the other exactly where both cover a frame and one of them writes
module _ {c o : Claim} (pc : Proper c) (po : Proper o) where
  pub clash_shares : (Precedes c o → ⊥) → (Precedes o c → ⊥) → Clash c o
  clash_shares f g =
      let a : o.start < c.end = elim (dec_le c.end o.start) [ yes h ↦ absurd (f (apart h)) | no h ↦ omega arith ] in
      let b : c.start < o.end = elim (dec_le o.end c.start) [ yes h ↦ absurd (g (apart h)) | no h ↦ omega arith ] in
      let some_c = pc.some in
      let some_o = po.some in
      let order = dec_le c.start o.start in
      let frames : (shared c o).first < (shared c o).end =
      elim order [
        | yes h ↦ shared_some c o o.start (omega arith, omega arith) (omega arith, omega arith)
        | no h ↦ shared_some c o c.start (omega arith, omega arith) (omega arith, omega arith)
      ] in
      let one_writes : (c.kind ≡ 2) ⊎ (o.kind ≡ 2) =
      elim po.reads_or_writes [
        | inr k ↦ inr k
        | inl k ↦ elim pc.reads_or_writes [
          | inr l ↦ inl l
          | inl l ↦ absurd (elim order [ yes h ↦ f (readers l k h) | no h ↦ g (readers k l (omega arith)) ])
        ]
      ] in
      record { some_frame = frames; one_writes = one_writes }

  pub zero_clashes : compare c o ≡ pos 0 → Clash c o
  zero_clashes e = go (compared c o) e
    where
      go : {number : ℤ} → Compared c o number → number ≡ pos 0 → Clash c o
      go (after p) q = let z : ◌≡◌ {A = ℕ} 0 1 = cc in absurd (omega arith)
      go (before p) q = let z : ◌≡◌ {A = ℕ} 0 1 = cc in absurd (omega arith)
      go (clashing f g) q = clash_shares f g

-- the other way, of any two claims
module _ {c o : Claim} (h : Clash c o) where
  one_frame : Covers c (shared c o).first × Covers o (shared c o).first
  one_frame = (shared_whole c o).covered_by_both (shared c o).first (omega arith) h.some_frame

  not_both_read : c.kind ≡ 1 → o.kind ≡ 1 → ⊥
  not_both_read k l = elim h.one_writes [ inl e ↦ omega arith | inr e ↦ omega arith ]

  pub clash_zero : compare c o ≡ pos 0
  clash_zero = go (compared c o)
    where
      go : {number : ℤ} → Compared c o number → number ≡ pos 0
      go (after (apart p)) = let w = one_frame in absurd (omega arith)
      go (after (readers k l p)) = absurd (not_both_read k l)
      go (before (apart p)) = let w = one_frame in absurd (omega arith)
      go (before (readers k l p)) = absurd (not_both_read l k)
      go (clashing f g) = refl
