-- How far taking out has come: the walk stands at cur with prev behind it, what is left to relink gives the whole, and the stores that are left of the
-- tables as they stand are those from prev on.
use Prim.Native.Nat.{ℕ, zero, suc, ◌-◌, ◌<◌, ◌≤◌}
use mathlib.Core.Path.{◌≡◌, refl, sym, ap, ◌∙◌}
use mathlib.Core.Bool.{Bool}
use mathlib.Core.List.{List, [], ◌∷◌}
use mathlib.Core.Logic.{◌≢◌, ◌⊎◌, inl, inr}
use native.Mathlib.Omega.{arith}
use lib.ListN.{drop}
use Rattle.rules.specs.Tables.{Tables, tables, mark_at, node_word, link_word, put_link, node_count, mark, link, next, head, set_link}
use Rattle.rules.specs.Fetch.{kept_from, kept, taken_out}
use Rattle.rules.specs.Stores.{Store, store, stores_along, stores, ListEnds}
use Rattle.rules.proofs.Laws.Words.{put_link_length, same_node_count, link_put_at_most, same_link}
use Rattle.rules.proofs.Laws.Kept.{kept_end, kept_in, kept_out, kept_off, prev_not_cur, prev_behind, stored_next, kept_stored}
use Rattle.rules.proofs.Laws.Stores.{along_ended, along_end, along_same, along_other, along_off, others_left, still_ends}
use Rattle.reach.specs.Walks.{Links}
use Rattle.reach.proofs.TakingOut.{Going, going_start, going_end, going_left, going_skip, going_keep}

-- ---- one store, the first that is left
pub first_stored : (sheet : Bool) (nodes nodes' : List ℕ) (whose value : ℕ) → nodes' ≡ put_link sheet nodes whose value → ListEnds (tables sheet nodes [])
    → stores (tables sheet nodes []) ≡ store whose value ∷ drop 1 (stores (tables sheet nodes []))
    → (nodes' ≡ put_link sheet nodes whose value) × (stores (tables sheet nodes' []) ≡ drop 1 (stores (tables sheet nodes [])))
first_stored sheet nodes nodes' whose value p e q = (p, ap (λ (l : List ℕ). stores (tables sheet l [])) p ∙ others_left (tables sheet nodes []) e q)

-- ---- how far the walk has come
pub record Taking (whole t : Tables) (h prev at_prev cur : ℕ) : Type 0 where
  pub going : Going whole t h prev cur
  pub left : stores t ≡ stores_along t prev (kept_from h t cur)
  pub ends : ListEnds t
  pub as_it_stands : at_prev ≡ link t prev
  pub links : Links t.sheet t.nodes
  pub inside : cur ≤ node_count t

pub taking_start : (t : Tables) (n a : ℕ) → n ≡ node_count t → a ≡ head t → ListEnds t → Links t.sheet t.nodes → Taking (taken_out t) t n 0 a a
unfolding stores kept
taking_start t n a q p e l =
    rw (p, q) (record { going = going_start t e; left = refl; ends = e; as_it_stands = refl; links = l; inside = l.small 0 })

module _ {whole t : Tables} {prev at_prev cur : ℕ} where
  -- there are hops left
  pub taking_left : (h : ℕ) → Taking whole t h prev at_prev cur → cur ≢ 0 → 1 ≤ h
  taking_left h g z = going_left whole t prev cur h g.going z

  pub taking_less : (h : ℕ) → Taking whole t h prev at_prev cur → cur ≢ 0 → h - 1 < h
  taking_less h g z = let i = taking_left h g z in omega arith

  -- a marked node is passed over
  pub taking_skip : (h : ℕ) → Taking whole t (suc h) prev at_prev cur → cur ≢ 0 → mark t cur ≡ 1 → Taking whole t h prev at_prev (next t cur)
  taking_skip h g z m = record {
    going = going_skip whole t prev cur h g.going z m;
    left = g.left ∙ ap (stores_along t prev) (kept_out h t cur z m);
    ends = g.ends;
    as_it_stands = g.as_it_stands;
    links = g.links;
    inside = g.links.small cur;
  }

  -- a node stays, and prev's link is right already
  pub taking_on : (h : ℕ) → Taking whole t (suc h) prev at_prev cur → cur ≢ 0 → mark t cur ≢ 1 → at_prev ≡ cur → Taking whole t h cur (next t cur) (next t cur)
  taking_on h g z m q =
      let e : link t prev ≡ cur = sym g.as_it_stands ∙ q in
      record {
        going = rw (same_link t prev cur e) at (going_keep whole t prev cur h g.going z m);
        left = g.left ∙ ap (stores_along t prev) (kept_in h t cur z m) ∙ along_same t prev cur (kept_from h t (next t cur)) e;
        ends = g.ends;
        as_it_stands = refl;
        links = g.links;
        inside = g.links.small cur;
      }

  -- or it is stored
  pub taking_next : (h : ℕ) → Taking whole t (suc h) prev at_prev cur → cur ≢ 0 → mark t cur ≢ 1 → at_prev ≢ cur
      → stores t ≡ store prev cur ∷ stores_along t cur (kept_from h t (next t cur))
  taking_next h g z m d =
      g.left ∙ ap (stores_along t prev) (kept_in h t cur z m)
      ∙ along_other t prev cur (kept_from h t (next t cur)) (λ e. d (g.as_it_stands ∙ e))

  pub taking_stored : (h : ℕ) → Taking whole t (suc h) prev at_prev cur → cur ≢ 0 → mark t cur ≢ 1 → at_prev ≢ cur
      → Taking whole (set_link t prev cur) h cur (next t cur) (next t cur)
  taking_stored h g z m d =
      let p = taking_next h g z m d in
      let w = g.going.stands in
      let off = kept_off h t prev (next t cur) (prev_behind w z) in
      let same : node_count (set_link t prev cur) ≡ node_count t = same_node_count t (set_link t prev cur) refl (put_link_length t.sheet t.nodes prev cur) in
      record {
        going = going_keep whole t prev cur h g.going z m;
        left = others_left t g.ends p ∙ sym (along_off prev t cur cur (kept_from h t (next t cur)) (prev_not_cur w z) off)
            ∙ ap (stores_along (set_link t prev cur) cur) (sym (kept_stored w z) ∙ ap (kept_from h (set_link t prev cur)) (stored_next w z cur));
        ends = still_ends t g.ends p;
        as_it_stands = sym (stored_next w z cur);
        links = record { few = rw same g.links.few; small = λ b. rw same (link_put_at_most t.sheet t.nodes prev b cur (node_count t) g.inside (g.links.small b)) };
        inside = rw same (g.links.small cur);
      }

  -- at the end of the list
  pub taking_last : (h : ℕ) → Taking whole t h prev at_prev cur → cur ≡ 0 → at_prev ≢ 0 → stores t ≡ store prev 0 ∷ []
  taking_last h g z d = g.left ∙ ap (stores_along t prev) (kept_end h t cur z) ∙ along_end t prev (λ e. d (g.as_it_stands ∙ e))

  pub taking_ended : (h : ℕ) → Taking whole t h prev at_prev cur → cur ≡ 0 → at_prev ≡ 0 → (t ≡ whole) × (stores t ≡ [])
  taking_ended h g z q =
      let e : link t prev ≡ 0 = sym g.as_it_stands ∙ q in (
        sym (same_link t prev 0 e) ∙ going_end whole t prev cur h g.going z,
        g.left ∙ ap (stores_along t prev) (kept_end h t cur z) ∙ along_ended t prev e,
      )

-- ---- the same for what the code has read: how many hops were left, cur's link and mark, and the words that it leaves
less : (h : ℕ) (P : ℕ → Type 0) → 1 ≤ h → ((k : ℕ) → h ≡ suc k → P k) → P (h - 1)
less zero P l f = absurd (omega arith)
less (suc k) P l f = let y : suc k - 1 ≡ k = omega arith in rw y (f k refl)

-- a list that begins with x is x and what is left without it
reserves : {x : Store} {xs ys : List Store} → xs ≡ x ∷ ys → xs ≡ x ∷ drop 1 xs
reserves e = rw e

module _ {sheet : Bool} {whole : Tables} {nodes : List ℕ} {h prev at_prev cur : ℕ} (g : Taking whole (tables sheet nodes []) h prev at_prev cur) where
  abbrev t : Tables
  t = tables sheet nodes []

  module _ {x m : ℕ} (z : cur ≢ 0) (p : x ≡ link_word sheet nodes cur) (q : m ≡ node_word sheet nodes cur mark_at) where
    pub read_skip : m ≡ 1 → Taking whole t (h - 1) prev at_prev x
    read_skip e =
        less h (λ k. Taking whole t k prev at_prev x) (taking_left h g z)
        (λ k y. rw p (taking_skip k (rw y at g) z (sym q ∙ e)))

    module _ (e : m ≢ 1) where
      unmarked : mark t cur ≢ 1
      unmarked i = e (q ∙ i)

      pub read_on_law : {nodes' : List ℕ} → at_prev ≡ cur → nodes' ≡ nodes → Taking whole (tables sheet nodes' []) (h - 1) cur x x
      read_on_law i same =
          rw same
          (less h (λ k. Taking whole t k cur x x) (taking_left h g z)
          (λ k y. rw p (taking_on k (rw y at g) z unmarked i)))

      pub read_stored : {nodes' : List ℕ} → at_prev ≢ cur → nodes' ≡ put_link sheet nodes prev cur → Taking whole (tables sheet nodes' []) (h - 1) cur x x
      read_stored d stored =
          rw stored
          (less h (λ k. Taking whole (set_link t prev cur) k cur x x) (taking_left h g z)
          (λ k y. rw p (taking_stored k (rw y at g) z unmarked d)))

      -- whether or not it was stored: only a link that differs is
      pub read_either : {nodes' : List ℕ} → ((at_prev ≢ cur) × (nodes' ≡ put_link sheet nodes prev cur)) ⊎ ((at_prev ≡ cur) × (nodes' ≡ nodes))
          → Taking whole (tables sheet nodes' []) (h - 1) cur x x
      read_either (inl w) = read_stored w.0 w.1
      read_either (inr w) = read_on_law w.0 w.1

      pub read_next : at_prev ≢ cur → ListEnds t × (stores t ≡ store prev cur ∷ drop 1 (stores t))
      read_next d = (
        g.ends,
        less h (λ k. stores t ≡ store prev cur ∷ drop 1 (stores t)) (taking_left h g z)
            (λ k y. reserves (taking_next k (rw y at g) z unmarked d)),
      )

  pub read_last : cur ≡ 0 → at_prev ≢ 0 → ListEnds t × (stores t ≡ store prev 0 ∷ drop 1 (stores t))
  read_last z d = (g.ends, reserves (taking_last h g z d))

  pub read_ended : cur ≡ 0 → at_prev ≡ 0 → (nodes ≡ whole.nodes) × (stores t ≡ [])
  read_ended z i = let w = taking_ended h g z i in (ap (λ (u : Tables). u.nodes) w.0, w.1)

  pub read_end : {nodes' : List ℕ} → cur ≡ 0 → at_prev ≢ 0 → nodes' ≡ put_link sheet nodes prev 0 → stores (tables sheet nodes' []) ≡ drop 1 (stores t)
      → (nodes' ≡ whole.nodes) × (stores (tables sheet nodes' []) ≡ [])
  read_end z d stored left =
      (stored ∙ ap (λ (u : Tables). u.nodes) (going_end whole t prev cur h g.going z), left ∙ ap (drop 1) (taking_last h g z d))
