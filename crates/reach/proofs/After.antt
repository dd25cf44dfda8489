-- Which nodes are free once the marked ones are taken out, read off the tables as they stand: taking out changes no link but those of head
-- and of the unmarked listed nodes, so a walk that stops at these sees no difference. So fetch decides before it stores.
use Prim.Native.Nat.{ℕ, zero, suc, ◌+◌, ◌*◌, ◌≤◌}
use mathlib.Core.Path.{◌≡◌, refl, sym, ap, ◌∙◌}
use mathlib.Core.Bool.{Bool, true, false, ◌||◌, not, or-false}
use mathlib.Core.List.{List, [], ◌∷◌}
use mathlib.Core.Logic.{◌≢◌, ⊎_elim}
use native.Mathlib.Omega.{arith}
use lib.ListN.{length}
use borrow.Author.Tests.{eq-eqb, ne_eqb, eqb-true, eqb-false}
use Rattle.rules.specs.Notation.{◌is◌}
use Rattle.rules.specs.Tables.{Tables, before_nodes, node_width, node_count, seat_count, link_word, link, next, head, mark, marked, own, prev, cur, set_link}
use Rattle.rules.specs.Reach.{met, listed, free}
use Rattle.rules.specs.Fetch.{kept_from, kept, link_through, taken_out}
use Rattle.rules.proofs.Ground.Logic.{either, or_left, or_right, or_case, or_neither, neither, clash, not_of}
use Rattle.rules.proofs.Ground.Pigeonhole.{Off, off_none, off_more}
use Rattle.rules.proofs.Laws.Words.{put_link_length, same_node_count, same_seat_count, link_put_same, link_put_other, link_put_at_most}
use Rattle.rules.proofs.Laws.Shape.{Sound}
use Rattle.rules.proofs.Laws.NodesAlone.{taken_out_profile, taken_out_seats}
use Rattle.rules.proofs.Laws.Kept.{kept_end, kept_in, kept_out, kept_away, kept_off, at_end, prev_not_cur, prev_behind}
use Rattle.nodesets.specs.Set.{has, none, add}
use Rattle.nodesets.proofs.Set.{has_none, none_length, has_add, add_length}
use Rattle.reach.specs.Walks.{Links, reach_from, reach_seat, reach_seats, reach_others, add_all}
use Rattle.reach.proofs.Walk.{met_none, met_zero, met_next, met_case, swap, inside, outside, closed_alike, add_keeps}
use Rattle.reach.proofs.Used.{Grown, Named, sound_named, joins_list, joins_others}
use Rattle.reach.proofs.TakingOut.{Going, going_start, going_end, going_skip, going_keep}

-- ---- the members of a list
unfoldable pub is_in : List ℕ → ℕ → Bool
is_in [] x = false
is_in (a ∷ ks) x = a is x || is_in ks x

in_none : (x : ℕ) → is_in [] x ≡ false
unfolding is_in
in_none x = refl

in_more : (a x : ℕ) (ks : List ℕ) → is_in (a ∷ ks) x ≡ (a is x || is_in ks x)
unfolding is_in
in_more a x ks = refl

in_head : (a : ℕ) (ks : List ℕ) → is_in (a ∷ ks) a ≡ true
in_head a ks = in_more a a ks ∙ or_left (a is a) (is_in ks a) (eq-eqb a a refl)

in_tail : (a x : ℕ) (ks : List ℕ) → is_in ks x ≡ true → is_in (a ∷ ks) x ≡ true
in_tail a x ks e = in_more a x ks ∙ or_right (a is x) (is_in ks x) e

off_out : (x : ℕ) {ks : List ℕ} → Off x ks → is_in ks x ≡ false
unfolding is_in
off_out x off_none = refl
off_out x (off_more {y = y} d o) = neither (y is x) _ (ne_eqb y x (λ e. d (sym e))) (off_out x o)

-- every member is one of the nodes 1 to n
Within : List ℕ → ℕ → Type 0
Within ks n = (x : ℕ) → is_in ks x ≡ true → (x ≢ 0) × (x ≤ n)

within_tail : (a n : ℕ) (ks : List ℕ) → Within (a ∷ ks) n → Within ks n
unfolding Within
within_tail a n ks w x e = w x (in_tail a x ks e)

-- ---- the unmarked nodes met from a
-- by the three ways on
kept_by : (P : List ℕ → Type 0) (h : ℕ) (t : Tables) (a : ℕ)
    → (a ≡ 0 → P []) → (a ≢ 0 → P (a ∷ kept_from h t (next t a))) → (a ≢ 0 → P (kept_from h t (next t a))) → P (kept_from (suc h) t a)
kept_by P h t a f g k =
    ⊎_elim
    (λ z. let q = eqb-true a 0 z in rw (kept_end (suc h) t a q) (f q))
    (λ z. let q = eqb-false a 0 z in
    ⊎_elim
    (λ y. rw (kept_out h t a q (eqb-true (mark t a) 1 y)) (k q))
    (λ y. rw (kept_in h t a q (eqb-false (mark t a) 1 y)) (g q))
    (either (marked t a)))
    (either (a is 0))

kept_none : (t : Tables) (a x : ℕ) → is_in (kept_from 0 t a) x ≡ true → ⊥
unfolding kept_from
kept_none t a x e = clash (is_in [] x) e (in_none x)

kept_met : (h : ℕ) (t : Tables) (a x : ℕ) → is_in (kept_from h t a) x ≡ true → met h t a x ≡ true
kept_met zero t a x = λ e. absurd (kept_none t a x e)
kept_met (suc h) t a x =
    let b : ℕ = next t a in
    kept_by (λ ks. is_in ks x ≡ true → met (suc h) t a x ≡ true) h t a
    (λ z e. absurd (clash (is_in [] x) e (in_none x)))
    (λ z e. met_next h t a x z
    ∙ ⊎_elim (λ y. or_left (a is x) (met h t b x) y) (λ y. or_right (a is x) (met h t b x) (kept_met h t b x y)) (or_case (a is x) (is_in (kept_from h t b) x) (sym (in_more a x (kept_from h t b)) ∙ e)))
    (λ z e. met_next h t a x z ∙ or_right (a is x) (met h t b x) (kept_met h t b x e))

met_within : (h : ℕ) (t : Tables) (a x : ℕ) → Links t.sheet t.nodes → a ≤ node_count t → met h t a x ≡ true → (x ≢ 0) × (x ≤ node_count t)
met_within zero t a x s b e = absurd (clash (met 0 t a x) e (met_none t a x))
met_within (suc h) t a x s b e =
    let w = met_case h t a x e in
    ⊎_elim (λ q. (λ y. w.0 (q ∙ y), rw (← q) b)) (λ y. met_within h t (next t a) x s (s.small a) y) w.1

-- ---- the tables afterwards, by their links
through_length : (ks : List ℕ) (t : Tables) (p : ℕ) → length (link_through t p ks).nodes ≡ length t.nodes
unfolding link_through
through_length [] t p = put_link_length t.sheet t.nodes p 0
through_length (a ∷ ks) t p = through_length ks (set_link t p a) a ∙ put_link_length t.sheet t.nodes p a

through_other : (ks : List ℕ) (t : Tables) (p b : ℕ) → p ≢ b → is_in ks b ≡ false → link (link_through t p ks) b ≡ link t b
unfolding link_through
through_other [] t p b d e = link_put_other t.sheet t.nodes p b 0 d
through_other (a ∷ ks) t p b d e =
    let w = or_neither (a is b) (is_in ks b) (sym (in_more a b ks) ∙ e) in
    through_other ks (set_link t p a) a b (eqb-false a b w.0) w.1 ∙ link_put_other t.sheet t.nodes p b a d

-- ---- tables of n nodes whose links are 0 or one of them
pub record Sized (t : Tables) (n : ℕ) : Type 0 where
  pub long : length t.nodes ≡ before_nodes t.sheet + node_width * n
  pub small : (b : ℕ) → link t b ≤ n

sized_put : (t : Tables) (p v n : ℕ) → Sized t n → v ≤ n → Sized (set_link t p v) n
sized_put t p v n s w =
    record {
      long = put_link_length t.sheet t.nodes p v ∙ s.long;
      small = λ b. link_put_at_most t.sheet t.nodes p b v n w (s.small b);
    }

sized_through : (ks : List ℕ) (t : Tables) (p n : ℕ) → Sized t n → Within ks n → Sized (link_through t p ks) n
unfolding link_through Within
sized_through [] t p n s w = sized_put t p 0 n s (omega arith)
sized_through (a ∷ ks) t p n s w =
    sized_through ks (set_link t p a) a n (sized_put t p a n s (w a (in_head a ks)).1) (within_tail a n ks w)

-- ---- the list from p on, once it is relinked, is the unmarked nodes met from a
relinked_end : (h g : ℕ) (whole t : Tables) (p a n x : ℕ) → Sized t n → p ≤ n → Going whole t h p a → a ≡ 0 → met g whole (link whole p) x ≡ is_in (kept_from h t a) x
relinked_end h g whole t p a n x s l w e =
    let q : link whole p ≡ 0 = ap (λ (u : Tables). link u p) (sym (going_end whole t p a h w e)) ∙ link_put_same t.sheet t.nodes p 0 (omega (arith, s.long)) in
    met_zero g whole (link whole p) x q ∙ sym (ap (λ (ks : List ℕ). is_in ks x) (kept_end h t a e) ∙ in_none x)

relinked_is_kept : (h g : ℕ) (whole t : Tables) (p a n x : ℕ) → Sized t n → p ≤ n → a ≤ n → h ≤ g → Going whole t h p a → met g whole (link whole p) x ≡ is_in (kept_from h t a) x
relinked_is_kept zero g whole t p a n x s l b o w = relinked_end 0 g whole t p a n x s l w (at_end w.stands)
relinked_is_kept (suc h) zero whole t p a n x s l b o w = absurd (omega arith)
relinked_is_kept (suc h) (suc g) whole t p a n x s l b o w =
    ⊎_elim
    (λ e. relinked_end (suc h) (suc g) whole t p a n x s l w (eqb-true a 0 e))
    (λ e. let z = eqb-false a 0 e in
    ⊎_elim
    (λ y. let m = eqb-true (mark t a) 1 y in
    relinked_is_kept h (suc g) whole t p (next t a) n x s l (s.small a) (omega arith) (going_skip whole t p a h w z m)
    ∙ ap (λ (ks : List ℕ). is_in ks x) (sym (kept_out h t a z m)))
    (λ y. let m = eqb-false (mark t a) 1 y in
    let u : Tables = set_link t p a in
    let far = prev_behind w.stands z in
    let k = going_keep whole t p a h w z m in
    let same : kept_from h u (next t a) ≡ kept_from h t (next t a) = kept_away t p a h (next t a) far in
    let gone : is_in (kept_from h u (next t a)) p ≡ false = rw same (off_out p (kept_off h t p (next t a) far)) in
    let first : link whole p ≡ a =
    ap (λ (v : Tables). link v p) (sym k.rest) ∙ through_other (kept_from h u (next t a)) u a p (λ q. prev_not_cur w.stands z (sym q)) gone
    ∙ link_put_same t.sheet t.nodes p a (omega (arith, s.long)) in
    rw first (met_next g whole a x z
    ∙ ap (λ (c : Bool). a is x || c) (relinked_is_kept h g whole u a (next t a) n x (sized_put t p a n s b) b (s.small a) (omega arith) k ∙ ap (λ (ks : List ℕ). is_in ks x) same)
    ∙ sym (ap (λ (ks : List ℕ). is_in ks x) (kept_in h t a z m) ∙ in_more a x (kept_from h t (next t a)))))
    (either (marked t a)))
    (either (a is 0))

-- ---- as a set
all_has : (ks ws : List ℕ) (x n : ℕ) → length ws ≡ 4 → n ≤ 256 → Within ks n → has (add_all ws ks) x ≡ (has ws x || is_in ks x)
unfolding add_all is_in Within
all_has [] ws x n f b w = sym (or-false (has ws x))
all_has (a ∷ ks) ws x n f b w =
    let c = w a (in_head a ks) in
    all_has ks (add ws a) x n (add_length ws a ∙ f) b (within_tail a n ks w)
    ∙ rw (has_add ws a x f c.0 (omega arith)) (swap (a is x) (has ws x) (is_in ks x))

all_length : (ks ws : List ℕ) → length (add_all ws ks) ≡ length ws
unfolding add_all
all_length [] ws = refl
all_length (a ∷ ks) ws = all_length ks (add ws a) ∙ add_length ws a

-- ---- walks that stop at the nodes ks, over two tables that differ only in the links of these
record Over (ks ws : List ℕ) : Type 0 where
  four : length ws ≡ 4
  holds : (a : ℕ) → is_in ks a ≡ true → has ws a ≡ true

module _ (ks : List ℕ) (t u : Tables) (s : Named t) (profile : u.sheet ≡ t.sheet) (seats : u.seats ≡ t.seats)
    (alike : (a : ℕ) → a ≢ 0 → is_in ks a ≡ false → link u a ≡ link t a) where
  -- the sets of the two walks
  abbrev Alike : List ℕ → List ℕ → Type 0
  Alike ws vs = (ws ≡ vs) × Over ks ws

  walk_same : (h : ℕ) (ws : List ℕ) (a : ℕ) → a ≤ node_count t → Over ks ws → Alike (reach_from t.sheet h t.nodes ws a) (reach_from t.sheet h u.nodes ws a)
  unfolding reach_from
  walk_same zero ws a b o = (refl, o)
  walk_same (suc h) ws a b o =
      ⊎_elim
      (λ z. rw z (refl, o))
      (λ z. let y = outside ws a z in
      let n : is_in ks a ≡ false = not_of (is_in ks a) (λ i. clash (has ws a) (o.holds a i) y.1) in
      let m : a ≤ 256 = omega (arith, s.links.few) in
      let l : link_word t.sheet u.nodes a ≡ link t a = rw profile at (alike a y.0 n) in
      rw (z, l)
      (walk_same h (add ws a) (next t a) (s.links.small a)
      (record { four = add_length ws a ∙ o.four; holds = λ x e. add_keeps ws a o.four y.0 m x (o.holds x e) })))
      (either (inside ws a))

  walk_alike : (h : ℕ) (ws vs : List ℕ) (a : ℕ) → a ≤ node_count t → Alike ws vs → Alike (reach_from t.sheet h t.nodes ws a) (reach_from t.sheet h u.nodes vs a)
  walk_alike h ws vs a b p = rw (← p.0) (walk_same h ws a b p.1)

  seat_alike : (h : ℕ) (ws vs : List ℕ) (r : ℕ) → Alike ws vs → Alike (reach_seat h t ws r) (reach_seat h u vs r)
  unfolding reach_seat
  seat_alike h ws vs r p =
      rw (profile, seats)
      (walk_alike h _ _ (cur t r) (s.cur_small r) (walk_alike h _ _ (prev t r) (s.prev_small r) (walk_alike h ws vs (own t r) (s.own_small r) p)))

  seats_alike : (h q : ℕ) (ws : List ℕ) (r : ℕ) → Over ks ws → Alike (reach_seats h t q ws r) (reach_seats h u q ws r)
  unfolding reach_seats
  seats_alike h q ws zero o = (refl, o)
  seats_alike h q ws (suc r) o =
      let p = seats_alike h q ws r o in
      ⊎_elim (λ e. rw e p) (λ e. rw e (seat_alike h _ _ r p)) (either (r is q))

-- ---- the tables afterwards
module _ (t : Tables) (w : Sound t) where
  named : Named t
  named = sound_named t w

  sized : Sized t (node_count t)
  sized = record { long = w.nodes_length; small = named.links.small }

  kept_within : Within (kept t) (node_count t)
  unfolding Within kept
  kept_within x e = met_within (node_count t) t (head t) x named.links (sized.small 0) (kept_met (node_count t) t (head t) x e)

  after_sized : Sized (taken_out t) (node_count t)
  unfolding taken_out
  after_sized = sized_through (kept t) t 0 (node_count t) sized kept_within

  pub after_count : node_count (taken_out t) ≡ node_count t
  after_count = same_node_count t (taken_out t) (taken_out_profile t) (after_sized.long ∙ ap (λ sheet. before_nodes sheet + node_width * node_count t) (taken_out_profile t) ∙ sym sized.long)

  after_seat_count : seat_count (taken_out t) ≡ seat_count t
  after_seat_count = same_seat_count t (taken_out t) (taken_out_profile t) (ap length (taken_out_seats t))

  after_named : Named (taken_out t)
  after_named =
      record {
        links = record { few = rw after_count w.few_nodes; small = λ a. rw after_count (after_sized.small a) };
        own_small = λ r. rw (after_count, taken_out_profile t, taken_out_seats t) (named.own_small r);
        prev_small = λ r. rw (after_count, taken_out_profile t, taken_out_seats t) (named.prev_small r);
        cur_small = λ r. rw (after_count, taken_out_profile t, taken_out_seats t) (named.cur_small r);
      }

  -- off the unmarked listed nodes no link changes
  after_link : (a : ℕ) → a ≢ 0 → is_in (kept t) a ≡ false → link (taken_out t) a ≡ link t a
  unfolding taken_out
  after_link a z e = through_other (kept t) t 0 a (λ q. z (sym q)) e

  -- the list afterwards is the unmarked nodes
  listed_after : (x : ℕ) → listed (taken_out t) x ≡ is_in (kept t) x
  unfolding listed kept
  listed_after x =
      rw after_count
      (relinked_is_kept (node_count t) (node_count t) (taken_out t) t 0 (head t) (node_count t) x sized (omega arith) (sized.small 0) (omega arith)
      (going_start t w.ends))

  kept_has : (x : ℕ) → has (add_all none (kept t)) x ≡ listed (taken_out t) x
  kept_has x = all_has (kept t) none x (node_count t) none_length w.few_nodes kept_within ∙ rw (has_none x) (sym (listed_after x))

  kept_grown : Grown (taken_out t) (add_all none (kept t))
  kept_grown =
      let j = joins_list (taken_out t) after_named in
      record {
        four = all_length (kept t) none ∙ none_length;
        closed = closed_alike (taken_out t) _ (add_all none (kept t)) (λ x. kept_has x ∙ sym (j.members x ∙ rw (has_none x))) j.grown.closed;
      }

  -- the seats' walks, stopped at the unmarked listed nodes, see no change
  others_same : (s : ℕ) → reach_others t s (add_all none (kept t)) ≡ reach_others (taken_out t) s (add_all none (kept t))
  unfolding reach_others
  others_same s =
      rw (after_count, after_seat_count)
      (seats_alike (kept t) t (taken_out t) named (taken_out_profile t) (taken_out_seats t) after_link (node_count t) s (add_all none (kept t)) (seat_count t)
      (record { four = kept_grown.four; holds = λ a e. kept_has a ∙ listed_after a ∙ e })).0

  pub after_free : (s x : ℕ) → not (has (reach_others t s (add_all none (kept t))) x) ≡ free (taken_out t) s x
  unfolding free
  after_free s x = rw (others_same s, (joins_others (taken_out t) after_named (add_all none (kept t)) s kept_grown).members x, kept_has x)
