-- The list of a good table is ordered by first frame; where all its claims write, each ends before the next one starts.
use Prim.Native.Nat.{ℕ, zero, suc, ◌≤◌, ◌<◌}
use mathlib.Core.Path.{◌≡◌}
use mathlib.Core.List.{◌∷◌}
use mathlib.Core.Logic.{inl, inr}
use native.Mathlib.Omega.{arith}
use borrow.Author.Tests.{eqb-false}
use Rattle.rules.specs.Notation.{◌is◌}
use Rattle.rules.specs.Tables.{Tables, node_count, start, end, kind, link, next, head}
use Rattle.rules.specs.Reach.{nodes_from, list_of}
use Rattle.rules.specs.Apart.{Neighbours, none, one, more, Rising}
use Rattle.rules.proofs.Ground.Logic.{branch}
use Rattle.rules.proofs.Invariant.View.{seats_of}
use Rattle.rules.proofs.Invariant.Clauses.{Seen}
use Rattle.rules.proofs.Invariant.Known.{Known, known_head, known_next}
use Rattle.rules.proofs.Keeping.Good.{Good}

module _ {N S : ℕ} {t : Tables} (g : Good N S t) (so : ℕ → ℕ → Type 0) (of_next : (a : ℕ) → Seen (link t) (seats_of t) a → 0 < next t a → so a (next t a)) where
  -- a node before what is listed from its next
  before_next : (h a : ℕ) → Seen (link t) (seats_of t) a → Neighbours so (nodes_from h t (next t a)) → Neighbours so (a ∷ nodes_from h t (next t a))
  unfolding nodes_from
  before_next zero a p r = one
  before_next (suc h) a p r =
      branch (λ l. Neighbours so l → Neighbours so (a ∷ l)) (next t a is 0)
      (λ z q. one)
      (λ z q. let d = eqb-false (next t a) 0 z in more (of_next a p (omega arith)) q)
      r

  from : (h a : ℕ) → Known (link t) (seats_of t) a → Neighbours so (nodes_from h t a)
  unfolding nodes_from
  from zero a k = none
  from (suc h) a k =
      branch (Neighbours so) (a is 0)
      (λ z. none)
      (λ z. elim k [
        | inl e ↦ absurd (eqb-false a 0 z e)
        | inr p ↦ before_next h a p (from h (next t a) (known_next p))
      ])

  along_list : Neighbours so (list_of t)
  unfolding list_of
  along_list = from (node_count t) (head t) known_head

module _ {N S : ℕ} {t : Tables} (g : Good N S t) where
  pub rising : Rising (start t) (list_of t)
  rising = along_list g (λ a b. start t a ≤ start t b) (λ a p d. (g.inv.ordered p d).starts)

  -- where every claim that a walk may come to writes
  pub in_turn : ((a : ℕ) → Seen (link t) (seats_of t) a → kind t a ≡ 2) → Neighbours (λ a b. end t a ≤ start t b) (list_of t)
  in_turn writes = along_list g (λ a b. end t a ≤ start t b) (λ a p d. (g.inv.ordered p d).writer_ends (writes a p))
