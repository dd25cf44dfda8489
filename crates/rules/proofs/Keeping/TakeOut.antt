-- Taking the marked nodes out is passing over them one after the other, so it leaves good tables good.
use Prim.Native.Nat.{ℕ, zero, suc, ◌+◌, ◌*◌, ◌≤◌, ◌<◌}
use mathlib.Core.Path.{◌≡◌, refl, sym, ap, ◌∙◌}
use mathlib.Core.List.{List, [], ◌∷◌}
use mathlib.Core.Logic.{◌≢◌, ◌⊎◌, inl, inr}
use native.Mathlib.Omega.{arith}
use lib.ListN.{length}
use borrow.Author.Tests.{eqb-true, eqb-false}
use Rattle.rules.specs.Notation.{◌is◌}
use Rattle.rules.specs.Tables.{Tables, tables, before_nodes, node_width, node_count, mark, marked, link, next, head, set_link}
use Rattle.rules.specs.Fetch.{kept_from, kept, link_through, taken_out}
use Rattle.rules.proofs.Ground.Logic.{branch}
use Rattle.rules.proofs.Laws.Words.{link_put_same, link_put_other, node_count_law, put_link_twice}
use Rattle.rules.proofs.Laws.Kept.{through_ended, through_right, kept_away}
use Rattle.rules.proofs.Ground.Following.{reach_target, reach_next, Ends, ends_zero, ends_tail, no_circle, unlink_keeps_ends}
use Rattle.rules.specs.Reach.{Reach, here, there}
use Rattle.rules.proofs.Ground.Pigeonhole.{short}
use Rattle.rules.proofs.Invariant.View.{seats_of}
use Rattle.rules.proofs.Invariant.Clauses.{OnList, from_head, Owner}
use Rattle.rules.proofs.Invariant.Known.{Known, known_head, known_ends, named_in}
use Rattle.rules.proofs.Keeping.Aside.{node_room}
use Rattle.rules.proofs.Keeping.Good.{Good, passes_over}

-- ---- prev is the head, or a standing claim
abbrev Firm : Tables → ℕ → Type 0
Firm t p = (p ≡ 0) ⊎ Owner (seats_of t) p

module _ {N S : ℕ} {t : Tables} (g : Good N S t) (p : ℕ) where
  firm_listed : Owner (seats_of t) p → OnList (link t) p
  firm_listed w = rw w.owns at (g.inv.linked w.seat w.linked).on_list

  firm_known : Firm t p → Known (link t) (seats_of t) p
  firm_known (inl e) = inl e
  firm_known (inr w) = inr (from_head (firm_listed w))

  firm_in : Firm t p → p ≤ N
  firm_in (inl e) = omega arith
  firm_in (inr w) = rw w.owns at (named_in (g.inv.seats w.seat).own_named)

  -- from its link no walk comes back to it
  firm_behind : Firm t p → Reach (link t) p (link t p) → ⊥
  firm_behind (inl e) r = let h = reach_target r in omega arith
  firm_behind (inr w) r = let q = firm_listed w in no_circle (g.inv.ends (from_head q)).1 (reach_target q) r

  firm_next : Firm t p → link t p ≢ 0 → OnList (link t) (link t p)
  firm_next (inl e) d = rw e (here (let z = ap (link t) e in omega arith))
  firm_next (inr w) d = reach_next (firm_listed w) (omega arith)

through_again : (ks : List ℕ) (t : Tables) (p v : ℕ) → link_through (set_link t p v) p ks ≡ link_through t p ks
unfolding link_through
through_again [] t p v = ap (λ l. tables t.sheet l t.seats) (put_link_twice t.sheet t.nodes p v 0)
through_again (a ∷ ks) t p v = ap (λ l. link_through (tables t.sheet l t.seats) a ks) (put_link_twice t.sheet t.nodes p v a)

-- a marked node is passed over, and the rest is done from the same prev
through_marked : (h : ℕ) (t : Tables) (p v : ℕ) → (Reach (link t) p v → ⊥)
    → link_through (set_link t p v) p (kept_from h (set_link t p v) v) ≡ link_through t p (kept_from h t v)
through_marked h t p v away = rw (kept_away t p v h v away) (through_again (kept_from h t v) t p v)

-- What holds of the tables and of prev is kept, if passing over a marked node keeps it and going on to any other does.
module _ (Holds : Tables → ℕ → Type 0)
    (has_room : (t : Tables) (p : ℕ) → Holds t p → before_nodes t.sheet + node_width * p ≤ length t.nodes)
    (no_way_back : (t : Tables) (p : ℕ) → Holds t p → Reach (link t) p (link t p) → ⊥)
    (passed_over : (t : Tables) (p c : ℕ) → Holds t p → link t p ≡ c → c ≢ 0 → mark t c ≡ 1 → Holds (set_link t p (next t c)) p)
    (gone_on : (t : Tables) (p c : ℕ) → Holds t p → link t p ≡ c → c ≢ 0 → mark t c ≢ 1 → Holds t c) where
  -- from prev, whose link is cur, with hops enough to the end
  through_keeps : (h : ℕ) (t : Tables) (p c : ℕ) → Holds t p → link t p ≡ c → (k : ℕ) → Ends (link t) c k → k ≤ h
      → (q : ℕ) × Holds (link_through t p (kept_from h t c)) q
  unfolding kept_from
  through_keeps zero t p c g e k ends l = rw (through_ended t p (e ∙ ends_zero ends l)) (p, g)
  through_keeps (suc h) t p c g e k ends l =
      branch (λ ks. (q : ℕ) × Holds (link_through t p ks) q) (c is 0)
      (λ z. rw (through_ended t p (e ∙ eqb-true c 0 z)) (p, g))
      (λ z. let d = eqb-false c 0 z in
      let pos : 0 < c = omega arith in
      let v = next t c in
      let rest = ends_tail ends d in
      branch (λ ks. (q : ℕ) × Holds (link_through t p ks) q) (marked t c)
      (λ m. let new = link_put_same t.sheet t.nodes p v (has_room t p g) in
      let left = unlink_keeps_ends (link t) (link (set_link t p v)) p c pos e new (λ a x. link_put_other t.sheet t.nodes p a v (λ q. x (sym q))) rest.1 in
      rw (through_marked h t p v (λ r. no_way_back t p g (rw e (there pos r)))) at
      (through_keeps h (set_link t p v) p v (passed_over t p c g e d (eqb-true (mark t c) 1 m)) new left.0 left.1 (omega arith)))
      (λ m. rw (through_right t p c (kept_from h t v) e)
      (through_keeps h t c v (gone_on t p c g e d (eqb-false (mark t c) 1 m)) refl rest.0 rest.1 (omega arith))))

  pub taken_out_keeps : (t : Tables) → Holds t 0 → (k : ℕ) → Ends (link t) (head t) k → k ≤ node_count t → (q : ℕ) × Holds (taken_out t) q
  unfolding taken_out kept
  taken_out_keeps t g k ends l = through_keeps (node_count t) t 0 (head t) g refl k ends l

abbrev GoodAt : ℕ → ℕ → Tables → ℕ → Type 0
GoodAt N S t p = Good N S t × Firm t p

pub taken_out_good : {N S : ℕ} {t : Tables} → Good N S t → Good N S (taken_out t)
taken_out_good {N} {S} {t} g =
    let ends = known_ends g.inv known_head in
    let few = short N (λ b. named_in (g.inv.nodes.links b)) (named_in (g.inv.nodes.links 0)) ends.1 in
    (taken_out_keeps (GoodAt N S)
    (λ t p w. node_room w.0.aside p (firm_in w.0 p w.1))
    (λ t p w. firm_behind w.0 p w.1)
    (λ t p c w e d m. (passes_over w.0 p c (firm_in w.0 p w.1) (firm_known w.0 p w.1) d m e, w.1))
    (λ t p c w e d m. (w.0, inr (w.0.inv.owner (rw e at (firm_next w.0 p w.1 (rw e d))) m)))
    t (g, inl refl) ends.0 ends.1 (rw (node_count_law t N g.aside.nodes_long) few)).1.0
