-- The stores by which marked nodes are taken out of a list that ends: they come to what the rule says, each link that differs is stored once and no other,
-- and what is left of them after the first are the others.
use Rattle.std.specs.Prelude.{if◌then◌else◌}
use Prim.Native.Nat.{ℕ, zero, suc, ◌+◌, ◌≤◌}
use mathlib.Core.Path.{◌≡◌, refl, sym, ap, ◌∙◌}
use mathlib.Core.Bool.{Bool, true, false}
use mathlib.Core.List.{List, [], ◌∷◌, ◌++◌, append-nil}
use mathlib.Core.Logic.{◌≢◌, ◌⊎◌, inl, inr}
use native.Mathlib.Omega.{arith}
use borrow.Author.Tests.{eq-eqb, ne_eqb}
use Rattle.rules.specs.Notation.{◌is◌}
use Rattle.rules.specs.Tables.{Tables, node_count, mark, link, next, head, set_link}
use Rattle.rules.specs.Reach.{Reach, here, there}
use Rattle.rules.specs.Fetch.{kept_from, kept, link_through, taken_out}
use Rattle.rules.specs.Stores.{Store, store, stores_along, stores, ListEnds, store_all, times_to}
use Rattle.rules.proofs.Ground.Deciding.{if_same}
use Rattle.rules.proofs.Ground.Following.{Ends, stop, more}
use Rattle.rules.proofs.Ground.Pigeonhole.{Off, off_none, off_more}
use Rattle.rules.proofs.Laws.Words.{link_put_there, link_put_other, put_link_length, same_node_count}
use Rattle.rules.proofs.Laws.Listed.{ends_within_law}
use Rattle.rules.proofs.Laws.Kept.{through_end, through_more, through_ended, through_right, kept_on, kept_end, kept_in, kept_out, kept_ways, kept_enough, kept_off, mark_stays, At, at_end, at_there, cur_pos, on_ends, on_few, prev_not_cur, prev_behind, at_skip, at_on, skip_left, on_left, stored_ends, at_stored, kept_stored, at_head}

-- ---- the list of stores, by the ways on
module _ (t : Tables) (q : ℕ) where
  pub along_ended : link t q ≡ 0 → stores_along t q [] ≡ []
  unfolding stores_along
  along_ended e = rw (eq-eqb (link t q) 0 e)

  pub along_end : link t q ≢ 0 → stores_along t q [] ≡ store q 0 ∷ []
  unfolding stores_along
  along_end d = rw (ne_eqb (link t q) 0 d)

  pub along_same : (a : ℕ) (ks : List ℕ) → link t q ≡ a → stores_along t q (a ∷ ks) ≡ stores_along t a ks
  unfolding stores_along
  along_same a ks e = rw (eq-eqb (link t q) a e)

  pub along_other : (a : ℕ) (ks : List ℕ) → link t q ≢ a → stores_along t q (a ∷ ks) ≡ store q a ∷ stores_along t a ks
  unfolding stores_along
  along_other a ks d = rw (ne_eqb (link t q) a d)

-- ---- how many go to a link
times_none : (a : ℕ) → times_to a [] ≡ 0
unfolding times_to
times_none a = refl

module _ (a v : ℕ) (xs : List Store) where
  times_one : times_to a (store a v ∷ xs) ≡ times_to a xs + 1
  unfolding times_to
  times_one = rw (eq-eqb a a refl)

  times_other : (q : ℕ) → q ≢ a → times_to a (store q v ∷ xs) ≡ times_to a xs
  unfolding times_to
  times_other q d = rw (ne_eqb q a d) (omega arith)

-- a link that is neither prev's nor that of a node that stays: no store goes to it, and a store to it changes no other
module _ (a : ℕ) where
  times_off : (t : Tables) (q : ℕ) (ks : List ℕ) → a ≢ q → Off a ks → times_to a (stores_along t q ks) ≡ 0
  times_off t q [] d off_none =
      if_same (link t q) 0
      (λ e. rw (along_ended t q e) (times_none a))
      (λ e. rw (along_end t q e) (times_other a 0 [] q (λ y. d (sym y)) ∙ times_none a))
  times_off t q (c ∷ ks) d (off_more k o) =
      let later = times_off t c ks k o in
      if_same (link t q) c
      (λ e. rw (along_same t q c ks e) later)
      (λ e. rw (along_other t q c ks e) (times_other a c (stores_along t c ks) q (λ y. d (sym y)) ∙ later))

  pub along_off : (t : Tables) (q v : ℕ) (ks : List ℕ) → a ≢ q → Off a ks → stores_along (set_link t a v) q ks ≡ stores_along t q ks
  unfolding stores_along
  along_off t q v [] d off_none = rw (link_put_other t.sheet t.nodes a q v d)
  along_off t q v (c ∷ ks) d (off_more k o) = rw (link_put_other t.sheet t.nodes a q v d, along_off t c v ks k o)

-- ---- along the walk: what holds at the end, where prev's link is right already, and where it is stored, holds of the list and its stores
record Other (t : Tables) (q c : ℕ) (ks : List ℕ) : Type 0 where
  differs : link t q ≢ c
  stands : link t q ≢ 0
  others : stores_along (set_link t q c) c ks ≡ stores_along t c ks
  once : times_to q (stores_along t c ks) ≡ 0

module _ (P : Tables → ℕ → List ℕ → Type 0)
    (ended : (t : Tables) (q : ℕ) → link t q ≡ 0 → P t q [])
    (end : (t : Tables) (q : ℕ) → link t q ≢ 0 → P t q [])
    (right : (t : Tables) (q c : ℕ) (ks : List ℕ) → link t q ≡ c → P t c ks → P t q (c ∷ ks))
    (stored : (t : Tables) (q c : ℕ) (ks : List ℕ) → Other t q c ks → P (set_link t q c) c ks → P t q (c ∷ ks)) where
  last : (t : Tables) (h q c : ℕ) → c ≡ 0 → P t q (kept_from h t c)
  last t h q c z = rw (kept_end h t c z) (if_same (link t q) 0 (ended t q) (end t q))

  along : (h : ℕ) (t : Tables) (q c : ℕ) → At t h q c → P t q (kept_from h t c)
  along zero t q c w = last t 0 q c (at_end w)
  along (suc h) t q c w =
      kept_ways t c
      (λ z. last t (suc h) q c z)
      (λ z m. rw (kept_out h t c z m) (along h t q (next t c) (at_skip w z m)))
      (λ z m. rw (kept_in h t c z m)
      (let ks = kept_from h t (next t c) in
      let off = kept_off h t q (next t c) (prev_behind w z) in
      if_same (link t q) c
      (λ e. right t q c ks e (along h t c (next t c) (at_on w z)))
      (λ d. stored t q c ks
      (record {
        differs = d;
        stands = at_there w d;
        others = along_off q t c c ks (prev_not_cur w z) off;
        once = times_off q t c ks (prev_not_cur w z) off;
      })
      (rw (kept_stored w z) at (along h (set_link t q c) c (next (set_link t q c) c) (at_stored w z))))))

-- ---- they come to what the rule says
all_none : (t : Tables) → store_all t [] ≡ t
unfolding store_all
all_none t = refl

all_more : (t : Tables) (x : Store) (xs : List Store) → store_all t (x ∷ xs) ≡ store_all (set_link t x.whose x.value) xs
unfolding store_all
all_more t x xs = refl

abbrev ComesTo : Tables → ℕ → List ℕ → Type 0
ComesTo t q ks = store_all t (stores_along t q ks) ≡ link_through t q ks

comes_to : (h : ℕ) (t : Tables) (q c : ℕ) → At t h q c → ComesTo t q (kept_from h t c)
comes_to =
    along ComesTo
    (λ t q e. rw (along_ended t q e, all_none t, through_ended t q e))
    (λ t q d. rw (along_end t q d, all_more t (store q 0) [], all_none (set_link t q 0), through_end t q))
    (λ t q c ks e r. rw (along_same t q c ks e, through_right t q c ks e) r)
    (λ t q c ks o r. rw (along_other t q c ks o.differs, all_more t (store q c) (stores_along t c ks), through_more t q c ks) (rw o.others at r))

-- ---- each link that differs is stored once, and no other
-- where no store goes, nothing changes
pub all_else : (xs : List Store) (t : Tables) (a : ℕ) → times_to a xs ≡ 0 → link (store_all t xs) a ≡ link t a
unfolding times_to store_all
all_else [] t a e = refl
all_else (x ∷ xs) t a e =
    if_same x.whose a
    (λ q. absurd (let k = eq-eqb x.whose a q in let one = rw k at e in omega arith))
    (λ d. let e' : times_to a xs + 0 ≡ 0 = rw (ne_eqb x.whose a d) at e in
    all_else xs (set_link t x.whose x.value) a (omega arith) ∙ link_put_other t.sheet t.nodes x.whose a x.value d)

abbrev OnceIfOther : ℕ → Tables → ℕ → List ℕ → Type 0
OnceIfOther a t q ks = times_to a (stores_along t q ks) ≡ (if link (store_all t (stores_along t q ks)) a is link t a then 0 else 1)

-- one store more: of a link that differs, to which no later one goes
one_more : (a : ℕ) (t : Tables) (q v : ℕ) (xs : List Store) → link t q ≢ v → link t q ≢ 0 → times_to q xs ≡ 0
    → times_to a xs ≡ (if link (store_all (set_link t q v) xs) a is link (set_link t q v) a then 0 else 1)
    → times_to a (store q v ∷ xs) ≡ (if link (store_all t (store q v ∷ xs)) a is link t a then 0 else 1)
one_more a t q v xs d s n r =
    if_same q a
    (λ e. let one : times_to q (store q v ∷ xs) ≡ 1 = let k = times_one q v xs in omega arith in
    let new : link (store_all t (store q v ∷ xs)) q ≡ v =
    ap (λ u. link u q) (all_more t (store q v) xs) ∙ all_else xs (set_link t q v) q n ∙ link_put_there t.sheet t.nodes q v s in
    rw (← e, new, ne_eqb v (link t q) (λ y. d (sym y))) one)
    (λ k. rw (all_more t (store q v) xs, times_other a v xs q k) (rw (link_put_other t.sheet t.nodes q a v k) at r))

once_if_other : (a : ℕ) (h : ℕ) (t : Tables) (q c : ℕ) → At t h q c → OnceIfOther a t q (kept_from h t c)
once_if_other a =
    along (OnceIfOther a)
    (λ t q e. rw (along_ended t q e) (none t))
    (λ t q d. rw (along_end t q d) (one_more a t q 0 [] d d (times_none q) (none (set_link t q 0))))
    (λ t q c ks e r. rw (along_same t q c ks e) r)
    (λ t q c ks o r. rw (along_other t q c ks o.differs) (one_more a t q c (stores_along t c ks) o.differs o.stands o.once (rw o.others at r)))
  where
    none : (t : Tables) → times_to a [] ≡ (if link (store_all t []) a is link t a then 0 else 1)
    none t = rw (all_none t, eq-eqb (link t a) (link t a) refl) (times_none a)

-- ---- once the first is made the others are left: the same nodes stay, and the list ends no later
abbrev made : Tables → Store → Tables
made t x = set_link t x.whose x.value

record Made (t : Tables) (h q c left : ℕ) (ks : List ℕ) (x : Store) (rest : List Store) : Type 0 where
  to_prev_or_ahead : (x.whose ≡ q) ⊎ Reach (link t) x.whose c
  stands : link t x.whose ≢ 0
  same_kept : (g : ℕ) → h ≤ g → kept_from g (made t x) (link (made t x) q) ≡ ks
  others : stores_along (made t x) q ks ≡ rest
  ends : (k : ℕ) × Ends (link (made t x)) (link (made t x) q) k × (k ≤ left)

first_of : {x y : Store} {xs ys : List Store} → x ∷ xs ≡ y ∷ ys → y ≡ x
first_of e = cc

others_of : {x y : Store} {xs ys : List Store} → x ∷ xs ≡ y ∷ ys → ys ≡ xs
others_of e = cc

no_first : {x : Store} {xs : List Store} → [] ≡ x ∷ xs → ⊥
no_first e = let z : ◌≡◌ {A = ℕ} 0 1 = cc in omega arith

-- it is prev's, at the end of the list or before a node that stays
made_last : {t : Tables} (h q c left : ℕ) → link t q ≢ 0 → Made t h q c left [] (store q 0) []
made_last {t} h q c left d =
    let new = link_put_there t.sheet t.nodes q 0 d in
    record {
      to_prev_or_ahead = inl refl;
      stands = d;
      same_kept = λ g l. kept_end g (set_link t q 0) (link (set_link t q 0) q) new;
      others = along_ended (set_link t q 0) q new;
      ends = rw new (0, stop, omega arith);
    }

made_here : {t : Tables} {h q c : ℕ} (w : At t (suc h) q c) (z : c ≢ 0) → mark t c ≢ 1 → link t q ≢ c
    → Made t (suc h) q c w.left (c ∷ kept_from h t (next t c)) (store q c) (stores_along t c (kept_from h t (next t c)))
made_here {t} {h} {q} {c} w z m d =
    let u = set_link t q c in
    let ks = kept_from h t (next t c) in
    let new = link_put_there t.sheet t.nodes q c (at_there w d) in
    record {
      to_prev_or_ahead = inl refl;
      stands = at_there w d;
      same_kept = λ g l. rw new (kept_on u h c ks z (λ e. m (sym (mark_stays t q c c) ∙ e)) behind g l);
      others = along_same u q c ks new ∙ along_off q t c c ks (prev_not_cur w z) (kept_off h t q (next t c) (prev_behind w z));
      ends = rw new (suc (on_ends w z).0, more (cur_pos w z) (stored_ends w z c), let e = (on_ends w z).2 in omega arith);
    }
  where
    behind : (g : ℕ) → h ≤ g → kept_from g (set_link t q c) (next (set_link t q c) c) ≡ kept_from h t (next t c)
    behind g l = let few = on_few w z in kept_enough (set_link t q c) (stored_ends w z c) h g few (omega arith) ∙ kept_stored w z

-- or a later one: prev's link is right, and stays
made_later : {t : Tables} {h q c : ℕ} {x : Store} {xs : List Store} (w : At t (suc h) q c) (z : c ≢ 0) → mark t c ≢ 1 → link t q ≡ c
    → Made t h c (next t c) (at_on w z).left (kept_from h t (next t c)) x xs → Made t (suc h) q c w.left (c ∷ kept_from h t (next t c)) x xs
made_later {t} {h} {q} {c} {x} w z m e r =
    let u = made t x in
    let ks = kept_from h t (next t c) in
    let ahead : Reach (link t) x.whose c = elim r.to_prev_or_ahead [ inl y ↦ rw y (here (cur_pos w z)) | inr y ↦ there (cur_pos w z) y ] in
    let new : link u q ≡ c = link_put_other t.sheet t.nodes x.whose q x.value (λ y. w.behind (rw y at ahead)) ∙ e in
    record {
      to_prev_or_ahead = inr ahead;
      stands = r.stands;
      same_kept = λ g l. rw new (kept_on u h c ks z (λ y. m (sym (mark_stays t x.whose x.value c) ∙ y)) r.same_kept g l);
      others = along_same u q c ks new ∙ r.others;
      ends = let k = r.ends in rw new (suc k.0, more (cur_pos w z) k.1, let f = on_left w z in let l = k.2 in omega arith);
    }

-- a marked node is passed over: what holds from the next node on holds from here
made_skipped : {t : Tables} {h q c : ℕ} {x : Store} {xs : List Store} {ks : List ℕ} (w : At t (suc h) q c) (z : c ≢ 0) (m : mark t c ≡ 1)
    → Made t h q (next t c) (at_skip w z m).left ks x xs → Made t (suc h) q c w.left ks x xs
made_skipped w z m r = record {
  to_prev_or_ahead = elim r.to_prev_or_ahead [ inl y ↦ inl y | inr y ↦ inr (there (cur_pos w z) y) ];
  stands = r.stands;
  same_kept = λ g l. r.same_kept g (omega arith);
  others = r.others;
  ends = let k = r.ends in (k.0, k.1, let f = skip_left w z m in let l = k.2 in omega arith);
}

at_last : (h left : ℕ) (t : Tables) (q c : ℕ) (x : Store) (xs : List Store) → c ≡ 0
    → stores_along t q (kept_from h t c) ≡ x ∷ xs → Made t h q c left (kept_from h t c) x xs
at_last h left t q c x xs z e =
    let k = kept_end h t c z in
    if_same (link t q) 0
    (λ y. absurd (no_first (sym (ap (stores_along t q) k ∙ along_ended t q y) ∙ e)))
    (λ y. let f = sym (ap (stores_along t q) k ∙ along_end t q y) ∙ e in rw (k, first_of f, others_of f) (made_last h q c left y))

first_made : (h : ℕ) (t : Tables) (q c : ℕ) (w : At t h q c) (x : Store) (xs : List Store)
    → stores_along t q (kept_from h t c) ≡ x ∷ xs → Made t h q c w.left (kept_from h t c) x xs
first_made zero t q c w x xs e = at_last 0 w.left t q c x xs (at_end w) e
first_made (suc h) t q c w x xs e =
    kept_ways t c
    (λ z. at_last (suc h) w.left t q c x xs z e)
    (λ z m. let k = kept_out h t c z m in
    rw k (made_skipped w z m (first_made h t q (next t c) (at_skip w z m) x xs (sym (ap (stores_along t q) k) ∙ e))))
    (λ z m. let k = kept_in h t c z m in
    let ks = kept_from h t (next t c) in
    if_same (link t q) c
    (λ y. rw k (made_later w z m y (first_made h t c (next t c) (at_on w z) x xs (sym (ap (stores_along t q) k ∙ along_same t q c ks y) ∙ e))))
    (λ y. let f = sym (ap (stores_along t q) k ∙ along_other t q c ks y) ∙ e in rw (k, first_of f, others_of f) (made_here w z m y)))

-- ---- of the whole list
pub at_most_one : (b : Bool) → (if b then 0 else 1) ≤ 1
at_most_one true = omega arith
at_most_one false = omega arith

module _ (t : Tables) (e : ListEnds t) where
  here_at : At t (node_count t) 0 (head t)
  here_at = at_head t e

  pub come_to : store_all t (stores t) ≡ taken_out t
  unfolding stores taken_out kept
  come_to = comes_to (node_count t) t 0 (head t) here_at

  pub once_where_other : (a : ℕ) → times_to a (stores t) ≡ (if link (taken_out t) a is link t a then 0 else 1)
  unfolding stores kept
  once_where_other a = rw (← come_to) (once_if_other a (node_count t) t 0 (head t) here_at)

  pub none_twice : (a : ℕ) → times_to a (stores t) ≤ 1
  none_twice a = rw (once_where_other a) (at_most_one (link (taken_out t) a is link t a))

  module _ {x : Store} {rest : List Store} (p : stores t ≡ x ∷ rest) where
    same_count : node_count (made t x) ≡ node_count t
    same_count = same_node_count t (made t x) refl (put_link_length t.sheet t.nodes x.whose x.value)

    first : Made t (node_count t) 0 (head t) here_at.left (kept t) x rest
    unfolding stores kept
    first = first_made (node_count t) t 0 (head t) here_at x rest p

    pub others_left : stores (made t x) ≡ rest
    unfolding stores kept
    others_left = rw (same_count, first.same_kept (node_count t) (omega arith)) first.others

    pub still_ends : ListEnds (made t x)
    still_ends = let k = first.ends in ends_within_law (made t x) k.1 (node_count (made t x)) (let l = here_at.enough in let m = k.2 in let n = same_count in omega arith)

    -- no later one goes where the first goes, so its value stays
    only_one : times_to x.whose rest ≡ 0
    only_one =
        let k = times_one x.whose x.value rest in
        let m : times_to x.whose (x ∷ rest) ≤ 1 = rw p at (none_twice x.whose) in
        omega arith

    pub first_stays : link (taken_out t) x.whose ≡ x.value
    first_stays =
        ap (λ u. link u x.whose) (sym come_to ∙ ap (store_all t) p ∙ all_more t x rest)
        ∙ all_else rest (made t x) x.whose only_one ∙ link_put_there t.sheet t.nodes x.whose x.value first.stands

-- the tables after the first go on to the same end
pub same_end : (t : Tables) → ListEnds t → {x : Store} {rest : List Store} → stores t ≡ x ∷ rest → taken_out (made t x) ≡ taken_out t
same_end t e {x} {rest} p =
    sym (come_to (made t x) (still_ends t e p)) ∙ ap (store_all (made t x)) (others_left t e p) ∙ sym (all_more t x rest) ∙ ap (store_all t) (sym p)
    ∙ come_to t e

-- the first is of a link that differs, whatever the tables
along_differs : (t : Tables) (q : ℕ) (ks : List ℕ) (x : Store) (rest : List Store) → stores_along t q ks ≡ x ∷ rest → x.value ≢ link t x.whose
along_differs t q [] x rest e =
    if_same (link t q) 0
    (λ y. absurd (no_first (sym (along_ended t q y) ∙ e)))
    (λ y. rw (first_of (sym (along_end t q y) ∙ e)) (λ z. y (sym z)))
along_differs t q (c ∷ ks) x rest e =
    if_same (link t q) c
    (λ y. along_differs t c ks x rest (sym (along_same t q c ks y) ∙ e))
    (λ y. rw (first_of (sym (along_other t q c ks y) ∙ e)) (λ z. y (sym z)))

pub first_differs : (t : Tables) (x : Store) (rest : List Store) → stores t ≡ x ∷ rest → x.value ≢ link t x.whose
unfolding stores
first_differs t x rest e = along_differs t 0 (kept t) x rest e

-- ---- part of the way
pub record PartWay (t u : Tables) (rest : List Store) : Type 0 where
  pub left : stores u ≡ rest
  pub ends : ListEnds u
  pub to_same : taken_out u ≡ taken_out t

pub part_way : (before : List Store) (t : Tables) → ListEnds t → (rest : List Store) → stores t ≡ before ++ rest → PartWay t (store_all t before) rest
unfolding store_all
part_way [] t e rest p = record { left = p; ends = e; to_same = refl }
part_way (x ∷ before) t e rest p =
    let w = part_way before (made t x) (still_ends t e p) rest (others_left t e p) in
    record { left = w.left; ends = w.ends; to_same = w.to_same ∙ same_end t e p }

pub none_left : (t : Tables) → ListEnds t → stores (taken_out t) ≡ []
none_left t e = rw (← come_to t e) (part_way (stores t) t e [] (sym (append-nil (stores t)))).left

-- a store of the list, wherever it stands in it
times_part : (part : List Store) (a v : ℕ) (rest : List Store) → 1 ≤ times_to a (part ++ (store a v ∷ rest))
unfolding times_to
times_part [] a v rest = rw (eq-eqb a a refl) (omega arith)
times_part (y ∷ part) a v rest = let l = times_part part a v rest in omega arith

module _ (t : Tables) (e : ListEnds t) (part rest : List Store) (x : Store) (p : stores t ≡ part ++ (x ∷ rest)) where
  there_now : PartWay t (store_all t part) (x ∷ rest)
  there_now = part_way part t e (x ∷ rest) p

  pub stands_in_the_end : link (taken_out t) x.whose ≡ x.value
  stands_in_the_end =
      ap (λ u. link u x.whose) (sym there_now.to_same) ∙ first_stays (store_all t part) there_now.ends there_now.left

  -- it goes to a link that differs
  pub differs_before : x.value ≢ link t x.whose
  differs_before q =
      let same : times_to x.whose (stores t) ≡ 0 =
      rw (eq-eqb (link (taken_out t) x.whose) (link t x.whose) (stands_in_the_end ∙ q)) at (once_where_other t e x.whose) in
      let some = times_part part x.whose x.value rest in
      let none : times_to x.whose (part ++ (x ∷ rest)) ≡ 0 = rw p at same in
      omega arith
