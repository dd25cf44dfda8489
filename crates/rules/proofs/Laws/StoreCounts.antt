-- How many stores take marked nodes out: as many as links differ, no more than any other stores that come to the same, and no more than there are marked
-- nodes on the list.
use Rattle.std.specs.Prelude.{if◌then◌else◌}
use Prim.Native.Nat.{ℕ, zero, suc, ◌+◌, ◌≤◌, ◌<◌}
use mathlib.Core.Path.{◌≡◌, refl, sym, ap, ◌∙◌}
use mathlib.Core.Bool.{Bool, true, false, not}
use mathlib.Core.List.{List, [], ◌∷◌}
use mathlib.Core.Logic.{◌≢◌}
use native.Mathlib.Omega.{arith}
use native.Mathlib.Nat.{le_antisymm}
use native.Mathlib.Decide.{dec_lt}
use lib.ListN.{length}
use borrow.Author.Tests.{eq-eqb, ne_eqb}
use Rattle.rules.specs.Notation.{◌is◌, count}
use Rattle.rules.specs.Tables.{Tables, node_count, mark, link, next, head, set_link}
use Rattle.rules.specs.Fetch.{kept_from, kept, taken_out}
use Rattle.rules.specs.Stores.{Store, store, stores_along, stores, ListEnds, store_all, times_to, differs, marked_from, marked_listed}
use Rattle.rules.proofs.Ground.Deciding.{if_same, if_true}
use Rattle.rules.proofs.Laws.Words.{put_link_length, same_node_count, link_past}
use Rattle.rules.proofs.Laws.Shape.{Sound}
use Rattle.rules.proofs.Laws.Kept.{kept_end, kept_in, kept_out, kept_ways, At, at_end, at_skip, at_on, at_head}
use Rattle.rules.proofs.Laws.Stores.{along_ended, along_end, along_same, along_other, all_else, at_most_one, come_to, once_where_other}
use Rattle.rules.proofs.Laws.NodesAlone.{taken_out_profile}

-- ---- one of them apart
record Without (a : ℕ) (ys : List Store) : Type 0 where
  others : List Store
  one_less : length ys ≡ suc (length others)
  times : (b : ℕ) → times_to b ys ≡ times_to b others + (if a is b then 1 else 0)

without : (a : ℕ) (ys : List Store) → 1 ≤ times_to a ys → Without a ys
unfolding times_to
without a [] l = absurd (omega arith)
without a (y ∷ ys) l =
    if_same y.whose a
    (λ e. record { others = ys; one_less = refl; times = λ b. rw e })
    (λ d. let w = without a ys (let k = rw (ne_eqb y.whose a d) at l in omega arith) in
    record {
      others = y ∷ w.others;
      one_less = ap suc w.one_less;
      times = λ b. let t = w.times b in omega arith;
    })

-- fewer to each link are fewer
pub fewer : (xs ys : List Store) → ((a : ℕ) → times_to a xs ≤ times_to a ys) → length xs ≤ length ys
unfolding times_to
fewer [] ys h = omega arith
fewer (x ∷ xs) ys h =
    let some : 1 ≤ times_to x.whose ys = let k = eq-eqb x.whose x.whose refl in let l = rw k at (h x.whose) in omega arith in
    let w = without x.whose ys some in
    let l = fewer xs w.others (λ a. let k = h a in let t = w.times a in omega arith) in
    let m = w.one_less in
    omega arith

-- ---- a store for each number below n that has p
those : ℕ → (ℕ → Bool) → List Store
those zero p = []
those (suc n) p = if p n then store n 0 ∷ those n p else those n p

those_many : (n : ℕ) (p : ℕ → Bool) → length (those n p) ≡ count n p
unfolding those count
those_many zero p = refl
those_many (suc n) p = let h = those_many n p in if_true (p n) (λ e. rw e (omega arith)) (λ e. rw e (omega arith))

times_beyond : (n : ℕ) (p : ℕ → Bool) (a : ℕ) → n ≤ a → times_to a (those n p) ≡ 0
unfolding those times_to
times_beyond zero p a l = refl
times_beyond (suc n) p a l =
    let h = times_beyond n p a (omega arith) in
    if_true (p n) (λ e. rw (e, ne_eqb n a (λ q. omega arith)) (omega arith)) (λ e. rw e h)

times_below : (n : ℕ) (p : ℕ → Bool) (a : ℕ) → a < n → times_to a (those n p) ≡ (if p a then 1 else 0)
unfolding those times_to
times_below zero p a l = absurd (omega arith)
times_below (suc n) p a l =
    if_same a n
    (λ q. let h = times_beyond n p n (omega arith) in
    rw q (if_true (p n) (λ e. rw (e, eq-eqb n n refl) (omega arith)) (λ e. rw e h)))
    (λ d. let h = times_below n p a (omega arith) in
    if_true (p n) (λ e. rw (e, ne_eqb n a (λ q. d (sym q))) (omega arith)) (λ e. rw e h))

pub as_many : (xs : List Store) (n : ℕ) (p : ℕ → Bool) → ((a : ℕ) → times_to a xs ≡ (if p a then 1 else 0)) → ((a : ℕ) → n ≤ a → p a ≡ false)
    → length xs ≡ count n p
as_many xs n p h k =
    le_antisymm (fewer xs (those n p) (λ a. let e = same a in omega arith)) (fewer (those n p) xs (λ a. let e = same a in omega arith))
    ∙ those_many n p
  where
    same : (a : ℕ) → times_to a xs ≡ times_to a (those n p)
    same a = elim (dec_lt a n) [
      | yes l ↦ h a ∙ sym (times_below n p a l)
      | no l ↦ h a ∙ rw (k a (omega arith)) (sym (times_beyond n p a (omega arith)))
    ]

-- ---- no more than marked nodes: each store passes over one at least
marked_end : (h : ℕ) (t : Tables) (a : ℕ) → a ≡ 0 → marked_from h t a ≡ 0
unfolding marked_from
marked_end zero t a e = refl
marked_end (suc h) t a e = rw (eq-eqb a 0 e)

marked_one : (h : ℕ) (t : Tables) (a : ℕ) → a ≢ 0 → mark t a ≡ 1 → marked_from (suc h) t a ≡ 1 + marked_from h t (next t a)
unfolding marked_from
marked_one h t a z m = rw (ne_eqb a 0 z, m)

marked_none : (h : ℕ) (t : Tables) (a : ℕ) → a ≢ 0 → mark t a ≢ 1 → marked_from (suc h) t a ≡ marked_from h t (next t a)
unfolding marked_from
marked_none h t a z m = rw (ne_eqb a 0 z, ne_eqb (mark t a) 1 m) (omega arith)

-- one more where prev's link is no longer cur: a marked node was passed over before
abbrev Few : ℕ → Tables → ℕ → ℕ → Type 0
Few h t q c = length (stores_along t q (kept_from h t c)) ≤ marked_from h t c + (if link t q is c then 0 else 1)

few_last : (h : ℕ) (t : Tables) (q c : ℕ) → c ≡ 0 → Few h t q c
few_last h t q c z =
    let m = marked_end h t c z in
    rw (kept_end h t c z)
    (if_same (link t q) 0
    (λ e. rw (along_ended t q e) (omega arith))
    (λ d. rw (along_end t q d, z, ne_eqb (link t q) 0 d) (omega arith)))

few : (h : ℕ) (t : Tables) (q c : ℕ) → At t h q c → Few h t q c
few zero t q c w = few_last 0 t q c (at_end w)
few (suc h) t q c w =
    kept_ways t c
    (λ z. few_last (suc h) t q c z)
    (λ z m. let l = few h t q (next t c) (at_skip w z m) in
    let one = at_most_one (link t q is next t c) in
    rw (kept_out h t c z m, marked_one h t c z m) (omega arith))
    (λ z m. let same = eq-eqb (next t c) (next t c) refl in
    let l : length (stores_along t c (kept_from h t (next t c))) ≤ marked_from h t (next t c) + 0 = rw same at (few h t c (next t c) (at_on w z)) in
    rw (kept_in h t c z m, marked_none h t c z m)
    (if_same (link t q) c
    (λ e. rw (along_same t q c (kept_from h t (next t c)) e) (omega arith))
    (λ d. rw (along_other t q c (kept_from h t (next t c)) d, ne_eqb (link t q) c d) (omega arith))))

-- ---- of the whole list
module _ (t : Tables) (e : ListEnds t) where
  pub at_most_marked : length (stores t) ≤ marked_listed t
  unfolding stores kept marked_listed
  at_most_marked =
      let l = rw (eq-eqb (head t) (head t) refl) at (few (node_count t) t 0 (head t) (at_head t e)) in
      omega arith

  -- a link that is no other is none's store, and whoever comes to the same tables stores every other one
  pub fewest_to : (xs : List Store) → store_all t xs ≡ taken_out t → (a : ℕ) → times_to a (stores t) ≤ times_to a xs
  fewest_to xs p a =
      rw (once_where_other t e a)
      (if_same (times_to a xs) 0
      (λ z. rw (eq-eqb (link (taken_out t) a) (link t a) (ap (λ u. link u a) (sym p) ∙ all_else xs t a z)) (omega arith))
      (λ z. let one = at_most_one (link (taken_out t) a is link t a) in omega arith))

  pub fewest : (xs : List Store) → store_all t xs ≡ taken_out t → length (stores t) ≤ length xs
  fewest xs p = fewer (stores t) xs (fewest_to xs p)

  pub once_if_it_differs : (a : ℕ) → times_to a (stores t) ≡ (if differs t a then 1 else 0)
  once_if_it_differs a = once_where_other t e a ∙ turned (link (taken_out t) a is link t a)
    where
      turned : (b : Bool) → ◌≡◌ {A = ℕ} (if b then 0 else 1) (if not b then 1 else 0)
      turned true = refl
      turned false = refl

all_length : (xs : List Store) (t : Tables) → length (store_all t xs).nodes ≡ length t.nodes
unfolding store_all
all_length [] t = refl
all_length (x ∷ xs) t = all_length xs (set_link t x.whose x.value) ∙ put_link_length t.sheet t.nodes x.whose x.value

-- of the links of the head and of the nodes; what stands past the last node reads 0 before and afterwards
pub as_many_as_differ : (t : Tables) → Sound t → length (stores t) ≡ count (suc (node_count t)) (differs t)
as_many_as_differ t w =
    let u = taken_out t in
    let long : length u.nodes ≡ length t.nodes = ap (λ v. length v.nodes) (sym (come_to t w.ends)) ∙ all_length (stores t) t in
    let n = same_node_count t u (taken_out_profile t) long in
    as_many (stores t) (suc (node_count t)) (differs t) (once_if_it_differs t w.ends)
    (λ a l. let new = link_past u a (rw (n, taken_out_profile t) (long ∙ w.nodes_length)) (rw n l) in
    ap not (eq-eqb (link u a) (link t a) (new ∙ sym (link_past t a w.nodes_length l))))
