-- The unmarked nodes from a node on, which stay when marked ones are taken out: by the ways on, with hops to spare, and after a store to a link that is
-- not ahead; and the walk that takes out, where it stands and how it goes on.
use Prim.Native.Nat.{ℕ, zero, suc, ◌≤◌, ◌<◌}
use mathlib.Core.Path.{◌≡◌, refl, sym, ap, ◌∙◌}
use mathlib.Core.List.{List, [], ◌∷◌}
use mathlib.Core.Logic.{◌≢◌, ◌⊎◌, inl, inr}
use native.Mathlib.Omega.{arith}
use borrow.Author.Tests.{ne_eqb, eqb-false}
use Rattle.rules.specs.Notation.{◌is◌}
use Rattle.rules.specs.Tables.{Tables, node_count, mark_at, mark, link, next, head, set_link}
use Rattle.rules.specs.Reach.{Reach, here, there}
use Rattle.rules.specs.Fetch.{kept_from, link_through}
use Rattle.rules.specs.Stores.{ListEnds}
use Rattle.rules.proofs.Ground.Deciding.{if_same, if_true}
use Rattle.rules.proofs.Ground.Following.{reach_target, Ends, stop, more, ends_zero, ends_tail, no_circle, away_keeps_ends}
use Rattle.rules.proofs.Ground.Pigeonhole.{Off, off_none, off_more}
use Rattle.rules.proofs.Laws.Words.{link_put_other, node_put_link, same_link}
use Rattle.rules.proofs.Laws.Listed.{within_ends}

-- prev and each of some nodes link to the one that follows
pub through_end : (t : Tables) (prev : ℕ) → link_through t prev [] ≡ set_link t prev 0
unfolding link_through
through_end t prev = refl

pub through_more : (t : Tables) (prev a : ℕ) (ks : List ℕ) → link_through t prev (a ∷ ks) ≡ link_through (set_link t prev a) a ks
unfolding link_through
through_more t prev a ks = refl

-- a link that is right already is stored as it was
pub through_ended : (t : Tables) (prev : ℕ) → link t prev ≡ 0 → link_through t prev [] ≡ t
through_ended t prev e = through_end t prev ∙ same_link t prev 0 e

pub through_right : (t : Tables) (prev a : ℕ) (ks : List ℕ) → link t prev ≡ a → link_through t prev (a ∷ ks) ≡ link_through t a ks
through_right t prev a ks e = through_more t prev a ks ∙ ap (λ u. link_through u a ks) (same_link t prev a e)

-- ---- the unmarked nodes
pub kept_end : (h : ℕ) (t : Tables) (a : ℕ) → a ≡ 0 → kept_from h t a ≡ []
unfolding kept_from
kept_end zero t a e = refl
kept_end (suc h) t a e = rw e

pub kept_in : (h : ℕ) (t : Tables) (a : ℕ) → a ≢ 0 → mark t a ≢ 1 → kept_from (suc h) t a ≡ (a ∷ kept_from h t (next t a))
unfolding kept_from
kept_in h t a z m = rw (ne_eqb a 0 z, ne_eqb (mark t a) 1 m)

pub kept_out : (h : ℕ) (t : Tables) (a : ℕ) → a ≢ 0 → mark t a ≡ 1 → kept_from (suc h) t a ≡ kept_from h t (next t a)
unfolding kept_from
kept_out h t a z m = rw (ne_eqb a 0 z, m)

-- the three ways on
pub kept_ways {ℓ} : {C : Type ℓ} (t : Tables) (a : ℕ) → (a ≡ 0 → C) → (a ≢ 0 → mark t a ≡ 1 → C) → (a ≢ 0 → mark t a ≢ 1 → C) → C
kept_ways t a f g k = if_same a 0 f (λ z. if_same (mark t a) 1 (g z) (k z))

-- more hops than the walk takes give nothing more
pub kept_enough : (t : Tables) {a k : ℕ} → Ends (link t) a k → (h g : ℕ) → k ≤ h → k ≤ g → kept_from g t a ≡ kept_from h t a
kept_enough t stop h g l l' = kept_end g t 0 refl ∙ sym (kept_end h t 0 refl)
kept_enough t (more p e) zero g l l' = absurd (omega arith)
kept_enough t (more p e) (suc h) zero l l' = absurd (omega arith)
kept_enough t (more {a = a} p e) (suc h) (suc g) l l' =
    let same = kept_enough t e h g (omega arith) (omega arith) in
    let z : a ≢ 0 = omega arith in
    if_same (mark t a) 1
    (λ m. kept_out g t a z m ∙ same ∙ sym (kept_out h t a z m))
    (λ m. kept_in g t a z m ∙ ap (λ ks. a ∷ ks) same ∙ sym (kept_in h t a z m))

-- a node that stays, and then what stays behind it
pub kept_on : (t : Tables) (h a : ℕ) (ks : List ℕ) → a ≢ 0 → mark t a ≢ 1 → ((g : ℕ) → h ≤ g → kept_from g t (next t a) ≡ ks)
    → (g : ℕ) → suc h ≤ g → kept_from g t a ≡ a ∷ ks
kept_on t h a ks z m behind zero l = absurd (omega arith)
kept_on t h a ks z m behind (suc g) l = kept_in g t a z m ∙ ap (λ xs. a ∷ xs) (behind g (omega arith))

-- what is not ahead is not among them
pub kept_off : (h : ℕ) (t : Tables) (x a : ℕ) → (Reach (link t) x a → ⊥) → Off x (kept_from h t a)
unfolding kept_from
kept_off zero t x a f = off_none
kept_off (suc h) t x a f =
    kept_ways t a
    (λ z. rw (kept_end (suc h) t a z) off_none)
    (λ z m. rw (kept_out h t a z m) (kept_off h t x (next t a) (λ r. f (there (omega arith) r))))
    (λ z m. rw (kept_in h t a z m) (off_more {y = a} (λ e. f (rw e (here (omega arith)))) (kept_off h t x (next t a) (λ r. f (there (omega arith) r)))))

module _ (t : Tables) (p v : ℕ) where
  pub mark_stays : (a : ℕ) → mark (set_link t p v) a ≡ mark t a
  mark_stays a = node_put_link t.sheet t.nodes p a mark_at v (omega arith) (omega arith)

  pub kept_away : (h a : ℕ) → (Reach (link t) p a → ⊥) → kept_from h (set_link t p v) a ≡ kept_from h t a
  unfolding kept_from
  kept_away zero a f = refl
  kept_away (suc h) a f =
      if_true (a is 0)
      (λ z. rw z)
      (λ z. let pos : 0 < a = let y = eqb-false a 0 z in omega arith in
      let d : p ≢ a = λ e. f (rw (← e) (here (rw (← e) at pos))) in
      rw (z, link_put_other t.sheet t.nodes p a v d, mark_stays a, kept_away h (next t a) (λ r. f (there pos r))))

-- ---- the walk that takes the marked nodes out. It stands at cur, with prev behind it, and hops enough to the end; prev's link is cur, or a marked node
-- that was passed over
pub record At (t : Tables) (h prev cur : ℕ) : Type 0 where
  pub left : ℕ
  pub ends : Ends (link t) cur left
  pub enough : left ≤ h
  pub behind : Reach (link t) prev cur → ⊥
  pub joined : (link t prev ≡ cur) ⊎ ((link t prev ≢ 0) × (mark t (link t prev) ≡ 1))

module _ {t : Tables} {q c : ℕ} where
  pub at_end : At t 0 q c → c ≡ 0
  at_end w = ends_zero w.ends w.enough

  -- a link that differs is no 0
  pub at_there : {h : ℕ} → At t h q c → link t q ≢ c → link t q ≢ 0
  at_there w d = elim w.joined [ inl e ↦ absurd (d e) | inr y ↦ y.0 ]

  module _ {h : ℕ} (w : At t (suc h) q c) (z : c ≢ 0) where
    pub cur_pos : 0 < c
    cur_pos = omega arith

    pub on_ends : (m : ℕ) × Ends (link t) (next t c) m × (suc m ≡ w.left)
    on_ends = ends_tail w.ends z

    pub on_few : on_ends.0 ≤ h
    on_few = let l = w.enough in let e = on_ends.2 in omega arith

    pub prev_not_cur : q ≢ c
    prev_not_cur e = w.behind (rw e (here cur_pos))

    pub prev_behind : Reach (link t) q (next t c) → ⊥
    prev_behind r = w.behind (there cur_pos r)

    pub at_skip : mark t c ≡ 1 → At t h q (next t c)
    at_skip m = record {
      left = on_ends.0;
      ends = on_ends.1;
      enough = on_few;
      behind = prev_behind;
      joined = inr (elim w.joined [ inl e ↦ (λ y. z (sym e ∙ y), ap (mark t) e ∙ m) | inr y ↦ y ]);
    }

    pub at_on : At t h c (next t c)
    at_on = record {
      left = on_ends.0;
      ends = on_ends.1;
      enough = on_few;
      behind = no_circle w.ends cur_pos;
      joined = inl refl;
    }

    -- each of the two is one node nearer the end
    pub skip_left : (m : mark t c ≡ 1) → suc (at_skip m).left ≡ w.left
    unfolding at_skip
    skip_left m = on_ends.2

    pub on_left : suc at_on.left ≡ w.left
    unfolding at_on
    on_left = on_ends.2

    -- the same once prev's link is stored
    pub stored_same : (a v : ℕ) → a ≢ q → link (set_link t q v) a ≡ link t a
    stored_same a v d = link_put_other t.sheet t.nodes q a v (λ e. d (sym e))

    pub stored_next : (v : ℕ) → next (set_link t q v) c ≡ next t c
    stored_next v = stored_same c v (λ e. prev_not_cur (sym e))

    pub stored_ends : (v : ℕ) → Ends (link (set_link t q v)) (next (set_link t q v) c) on_ends.0
    stored_ends v = rw (stored_next v) (away_keeps_ends (link t) (link (set_link t q v)) q (λ a d. stored_same a v d) prev_behind on_ends.1)

    pub at_stored : At (set_link t q c) h c (next (set_link t q c) c)
    at_stored = record {
      left = on_ends.0;
      ends = stored_ends c;
      enough = on_few;
      behind = no_circle (more cur_pos (stored_ends c)) cur_pos;
      joined = inl refl;
    }

    pub kept_stored : kept_from h (set_link t q c) (next (set_link t q c) c) ≡ kept_from h t (next t c)
    kept_stored = rw (stored_next c) (kept_away t q c h (next t c) prev_behind)

pub at_head : (t : Tables) → ListEnds t → At t (node_count t) 0 (head t)
at_head t e =
    let w = within_ends t (node_count t) (head t) e in
    record { left = w.0; ends = w.1; enough = w.2; behind = λ r. let p = reach_target r in omega arith; joined = inl refl }
