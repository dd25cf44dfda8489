-- A rule for each way through the code: what a function has learnt on that way gives what it promises.
use Prim.Native.Nat.{ℕ, zero, suc, ◌+◌, ◌-◌, ◌≤◌, ◌<◌}
use mathlib.Core.Path.{◌≡◌, refl, sym, ap, ◌∙◌}
use mathlib.Core.Bool.{Bool, true, false, ◌&&◌, not, or-true}
use mathlib.Core.List.{List, []}
use mathlib.Core.Logic.{◌≢◌}
use native.Mathlib.Omega.{arith}
use native.Mathlib.Numerals.{add-one}
use lib.Dec.{eqb}
use borrow.Author.Tests.{eq-eqb, ne_eqb, eqb-true}
use mir.Syntax.{w32}
use mir.Val.{Fits}
use Rattle.rules.specs.Notation.{◌is◌, ◌<?◌, lowest}
use Rattle.std.specs.Prelude.{Option}
use Rattle.rules.specs.Tables.{Tables, tables, own_at, prev_at, cur_at, mark_at, node_word, link_word, seat_word, node_count_of, seat_count_of, node_count, seat_count, head, next}
use Rattle.rules.specs.Shape.{sound}
use Rattle.rules.specs.Reach.{free, lowest_free}
use Rattle.rules.specs.Means.{node_if_any}
use Rattle.rules.specs.Fetch.{kept_from, kept, taken_out}
use Rattle.rules.proofs.Ground.Logic.{both}
use Rattle.rules.proofs.Ground.Counting.{lowest_cut}
use Rattle.rules.proofs.Laws.Shape.{is_sound}
use Rattle.nodesets.specs.Set.{has, none, add}
use Rattle.nodesets.proofs.Set.{add_again}
use Rattle.reach.specs.Walks.{Links, reach_from, reach_seat, reach_seats, reach_others, add_all}
use Rattle.reach.specs.FreeSet.{IsFreeSet}
use Rattle.reach.proofs.Used.{Named, sound_named, used_free}
use Rattle.rules.proofs.Laws.Kept.{kept_end, kept_in, kept_out}
use Rattle.rules.proofs.Laws.NodesAlone.{kept_alone}
use Rattle.reach.proofs.After.{after_count, after_free}

-- ---- reach
pub next_small : (sheet : Bool) (nodes : List ℕ) (a x : ℕ) → Links sheet nodes → x ≡ link_word sheet nodes a → x ≤ node_count_of sheet nodes
next_small sheet nodes a x s e = rw e (s.small a)

pub hops_left : (h : ℕ) → h ≢ 0 → h ≢ 1 → h - 1 ≢ 0
hops_left zero n l e = n refl
hops_left (suc zero) n l e = l refl
hops_left (suc (suc h)) n l e = omega arith

pub node_within : (sheet : Bool) (nodes : List ℕ) (a : ℕ) → Links sheet nodes → a ≤ node_count_of sheet nodes → a ≤ 256
node_within sheet nodes a s h = omega (arith, s.few)

module _ (sheet : Bool) (nodes ws : List ℕ) (a : ℕ) where
  pub reach_end : (h : ℕ) → a ≡ 0 → ws ≡ reach_from sheet h nodes ws a
  unfolding reach_from
  reach_end zero e = refl
  reach_end (suc h) e = rw (eq-eqb a 0 e)

  pub reach_stop : (h : ℕ) (b : Bool) (vs : List ℕ) → (b ≡ has ws a) × (vs ≡ add ws a) → b ≡ true → vs ≡ reach_from sheet h nodes ws a
  unfolding reach_from
  reach_stop zero b vs p q = p.1 ∙ add_again ws a (sym p.0 ∙ q)
  reach_stop (suc h) b vs p q = let i : has ws a ≡ true = sym p.0 ∙ q in p.1 ∙ add_again ws a i ∙ rw (i, or-true (a is 0))

  pub reach_last : (h : ℕ) (b : Bool) (vs : List ℕ) → (b ≡ has ws a) × (vs ≡ add ws a) → b ≡ false → a ≢ 0 → h ≡ 1 → vs ≡ reach_from sheet h nodes ws a
  unfolding reach_from
  reach_last h b vs p q z e = rw (e, ne_eqb a 0 z, ← p.0, q) p.1

  pub reach_on : (h x : ℕ) (vs r : List ℕ) (b : Bool) → r ≡ reach_from sheet (h - 1) nodes vs x → x ≡ link_word sheet nodes a → (b ≡ has ws a) × (vs ≡ add ws a) → b ≡ false → h ≢ 0 → a ≢ 0 → r ≡ reach_from sheet h nodes ws a
  unfolding reach_from
  reach_on zero x vs r b p e q j n z = absurd (n refl)
  reach_on (suc h) x vs r b p e q j n z = let y : suc h - 1 ≡ h = omega arith in rw (ne_eqb a 0 z, ← q.0, j, ← q.1, ← e) (rw y at p)

-- ---- the seats
pub seat_reached : (sheet : Bool) (h r o p u : ℕ) (nodes seats us vs ws xs : List ℕ) → xs ≡ reach_from sheet h nodes ws u → ws ≡ reach_from sheet h nodes vs p → vs ≡ reach_from sheet h nodes us o
    → o ≡ seat_word sheet seats r own_at → p ≡ seat_word sheet seats r prev_at → u ≡ seat_word sheet seats r cur_at → xs ≡ reach_seat h (tables sheet nodes seats) us r
unfolding reach_seat
seat_reached sheet h r o p u nodes seats us vs ws xs a b c d e f = rw (a, b, c, d, e, f)

-- a seat that holds or has withdrawn stands nowhere
pub seat_resting : (sheet : Bool) (h r o p u : ℕ) (nodes seats us vs : List ℕ) → vs ≡ reach_from sheet h nodes us o → o ≡ seat_word sheet seats r own_at → p ≡ seat_word sheet seats r prev_at → u ≡ seat_word sheet seats r cur_at → (eqb p 0 && eqb u 0) ≡ true → vs ≡ reach_seat h (tables sheet nodes seats) us r
seat_resting sheet h r o p u nodes seats us vs a b c d e =
    let w = both (eqb p 0) (eqb u 0) e in
    let q = reach_end sheet nodes vs p h (eqb-true p 0 w.0) in
    seat_reached sheet h r o p u nodes seats us vs vs vs (reach_end sheet nodes vs u h (eqb-true u 0 w.1)) q a b c d

pub seat_within : (sheet : Bool) (seats : List ℕ) (r c : ℕ) → r < c → c ≡ seat_count_of sheet seats → r < seat_count_of sheet seats
seat_within sheet seats r c h e = rw e at h

module _ (h s : ℕ) (t : Tables) (ws : List ℕ) where
  pub seats_start : ws ≡ reach_seats h t s ws 0
  unfolding reach_seats
  seats_start = refl

  pub seats_pass : (r : ℕ) (us : List ℕ) → us ≡ reach_seats h t s ws r → r ≡ s → us ≡ reach_seats h t s ws (r + 1)
  unfolding reach_seats
  seats_pass r us p e = rw (add-one r, eq-eqb r s e) p

  pub seats_join : (r : ℕ) (us vs : List ℕ) → vs ≡ reach_seat h t us r → us ≡ reach_seats h t s ws r → r ≢ s → vs ≡ reach_seats h t s ws (r + 1)
  unfolding reach_seats
  seats_join r us vs q p e = rw (add-one r, ne_eqb r s e, ← p) q

  pub seats_done : (r c : ℕ) (us : List ℕ) → us ≡ reach_seats h t s ws r → r ≤ c → c ≤ r → h ≡ node_count t → c ≡ seat_count t → us ≡ reach_others t s ws
  unfolding reach_others
  seats_done r c us p x y e f = let q : r ≡ c = omega arith in rw (← e, ← f, ← q) p

-- ---- the unmarked listed nodes: after k of n hops, what is left to gather gives the whole
module _ (t : Tables) (n : ℕ) (ws whole : List ℕ) where
  pub kept_start : (a : ℕ) → ws ≡ none → n ≡ node_count t → a ≡ head t → add_all ws (kept_from (n - 0) t a) ≡ add_all none (kept t)
  unfolding kept
  kept_start a e p q = let all : n - 0 ≡ n = omega arith in rw (all, e, p, q)

  module _ (k a : ℕ) (gathered : add_all ws (kept_from (n - k) t a) ≡ whole) where
    pub kept_ended : a ≡ 0 → ws ≡ whole
    unfolding add_all
    kept_ended e = rw (kept_end (n - k) t a e) at gathered

    pub kept_spent : n ≤ k → ws ≡ whole
    unfolding add_all kept_from
    kept_spent h = let none_left : n - k ≡ 0 = omega arith in rw none_left at gathered

    module _ (some : k < n) (z : a ≢ 0) (x m : ℕ) (is_next : x ≡ next t a) (is_mark : m ≡ node_word t.sheet t.nodes a mark_at) where
      left : n - k ≡ suc (n - (k + 1))
      left = omega arith

      pub kept_skip : m ≡ 1 → add_all ws (kept_from (n - (k + 1)) t x) ≡ whole
      kept_skip e = rw is_next (rw (kept_out (n - (k + 1)) t a z (sym is_mark ∙ e)) at (rw left at gathered))

      pub kept_join : (vs : List ℕ) → vs ≡ add ws a → m ≢ 1 → add_all vs (kept_from (n - (k + 1)) t x) ≡ whole
      unfolding add_all
      kept_join vs v e = rw (is_next, v) (rw (kept_in (n - (k + 1)) t a z (λ i. e (is_mark ∙ i))) at (rw left at gathered))

-- ---- the free set of sound tables, and what is read off it
module _ (sheet : Bool) (nodes seats : List ℕ) (ok : sound (tables sheet nodes seats) ≡ true) where
  abbrev whole : Tables
  whole = tables sheet nodes seats

  named : Named whole
  named = sound_named whole (is_sound whole ok)

  pub links_within : Links sheet nodes
  links_within = named.links

  pub own_within : (r x : ℕ) → x ≡ seat_word sheet seats r own_at → x ≤ node_count_of sheet nodes
  own_within r x e = rw e (named.own_small r)

  pub prev_within : (r x : ℕ) → x ≡ seat_word sheet seats r prev_at → x ≤ node_count_of sheet nodes
  prev_within r x e = rw e (named.prev_small r)

  pub cur_within : (r x : ℕ) → x ≡ seat_word sheet seats r cur_at → x ≤ node_count_of sheet nodes
  cur_within r x e = rw e (named.cur_small r)

  pub head_within : (x : ℕ) → x ≡ link_word sheet nodes 0 → x ≤ node_count_of sheet nodes
  head_within x e = rw e (named.links.small 0)

  pub some_hops : (n : ℕ) → n ≡ node_count_of sheet nodes → n ≢ 0
  some_hops n e z = omega (arith, (is_sound whole ok).some_nodes)

  pub few_seats : (c : ℕ) → c ≡ seat_count_of sheet seats → c ≤ 64
  few_seats c e = omega (arith, (is_sound whole ok).few_seats)

  pub seats_fit_law : (c : ℕ) → c ≡ seat_count_of sheet seats → Fits w32 c
  seats_fit_law c e = let h = few_seats c e in omega arith

  pub free_now : (ws us vs es : List ℕ) (n a s : ℕ) → ((m : ℕ) → m < 256 → has ws (m + 1) ≡ (m <? n && not (has us (m + 1)))) → us ≡ reach_others whole s vs → vs ≡ reach_from sheet n nodes es a → es ≡ none → n ≡ node_count_of sheet nodes → a ≡ link_word sheet nodes 0 → IsFreeSet ws whole s
  free_now ws us vs es n a s f p q e b d =
      let w = is_sound whole ok in
      record { few = w.few_nodes; free_nodes = λ m h. f m h ∙ rw (p, q, e, b, d, used_free whole (sound_named whole w) s (m + 1)) }

  pub free_after : (ws us vs : List ℕ) (n s : ℕ) → ((m : ℕ) → m < 256 → has ws (m + 1) ≡ (m <? n && not (has us (m + 1)))) → us ≡ reach_others whole s vs → vs ≡ add_all none (kept (tables sheet nodes [])) → n ≡ node_count_of sheet nodes → IsFreeSet ws (taken_out whole) s
  free_after ws us vs n s f p q b =
      let w = is_sound whole ok in
      record {
        few = rw (after_count whole w) w.few_nodes;
        free_nodes = λ m h. f m h ∙ rw (p, q, b, kept_alone sheet nodes seats, after_free whole w s (m + 1), after_count whole w);
      }

pub lowest_read : (ws : List ℕ) (t : Tables) (s : ℕ) (r : Option ℕ) → r ≡ node_if_any (lowest 256 (has ws)) → IsFreeSet ws t s → r ≡ node_if_any (lowest_free t s)
unfolding lowest_free
lowest_read ws t s r p f = p ∙ ap node_if_any (lowest_cut (node_count t) 256 (has ws) (free t s) f.few (λ m h. rw (add-one m) at (f.free_nodes m h)))
