-- Why the invariant keeps holders apart: of two that share a frame the one listed first reads, or it would end before the other; and
-- if the other wrote, one of the two would have yet to come to the other.
use mathlib.Core.Path.{◌≡◌, sym}
use mathlib.Core.Logic.{◌≢◌, inl, inr}
use Prim.Native.Nat.{ℕ, ◌≤◌, ◌<◌}
use native.Mathlib.Omega.{arith}
use Rattle.rules.proofs.Ground.Following.{linear}
use Rattle.rules.specs.Reach.{Reach}
use Rattle.rules.proofs.Invariant.View.{Nodes, Seats, holding}
use Rattle.rules.proofs.Invariant.Clauses.{Ahead, reader_comes, writer_comes, from_head, Invariant}
use Rattle.rules.proofs.Invariant.Known.{own_proper, ordered_along}

module _ {N : ℕ} {n : Nodes} {s : Seats} (v : Invariant N n s) where
  not_both_holding : {g w : ℕ} → s.phase g ≡ 5 → s.phase w ≡ 5 → Ahead n.link s g w → ⊥
  not_both_holding p q (reader_comes d r) = d p
  not_both_holding p q (writer_comes d r) = d q

  first_before : (i j f : ℕ) → i ≢ j → s.phase i ≡ 5 → s.phase j ≡ 5 → Reach n.link (s.own j) (s.own i)
      → f < n.end (s.own i) → n.start (s.own j) ≤ f
      → (n.kind (s.own i) ≡ 1) × (n.kind (s.own j) ≡ 1)
  first_before i j f d pi pj r a b =
      let o = ordered_along v (from_head (v.linked i (holding pi)).on_list) r in
      let k = v.distinct i j d (omega arith) (omega arith) in
      elim (own_proper v i (omega arith)).reads_or_writes [
        | inl ri ↦ elim (own_proper v j (omega arith)).reads_or_writes [
          | inl rj ↦ (ri, rj)
          | inr wj ↦ absurd (not_both_holding pi pj (v.unsettled i j (holding pi) (holding pj) ri wj o.starts (let q = o.starts in omega arith)))
        ]
        | inr wi ↦ let q = o.writer_ends k wi in absurd (omega arith)
      ]

  pub both_read_law : (i j f : ℕ) → i ≢ j → s.phase i ≡ 5 → s.phase j ≡ 5
      → n.start (s.own i) ≤ f → f < n.end (s.own i) → n.start (s.own j) ≤ f → f < n.end (s.own j)
      → (n.kind (s.own i) ≡ 1) × (n.kind (s.own j) ≡ 1)
  both_read_law i j f d pi pj a b a' b' =
      elim (linear (v.linked i (holding pi)).on_list (v.linked j (holding pj)).on_list) [
        | inl r ↦ first_before i j f d pi pj r b a'
        | inr r ↦ let q = first_before j i f (λ e. d (sym e)) pj pi r b' a in (q.1, q.0)
      ]
