-- Good tables: the invariant, and what is known beside the view. Each rule of a step that fetches nothing leaves good tables good, and
-- so does release.
use Prim.Native.Nat.{ℕ, ◌≤◌, ◌<◌}
use mathlib.Core.Path.{◌≡◌, sym, subst, ◌∙◌, refl}
use mathlib.Core.List.{List}
use mathlib.Core.Logic.{◌≢◌, ◌⊎◌, inl, inr}
use native.Mathlib.Omega.{arith}
use Rattle.rules.specs.Tables.{Tables, tables, node_width, mark_at, next_at, phase_at, own_at, prev_at, cur_at, node_word, put_link, mark, link, next, phase, own, prev, cur, set_count, set_link, set_mark}
use Rattle.rules.specs.Comparison.{claim_of}
use Rattle.rules.specs.Steps.{link_in}
use Rattle.rules.proofs.Laws.Words.{link_put_same, link_put_other, link_put_field, node_put_link, node_put_same, node_put_field, node_put_node, put_link_length}
use Rattle.rules.specs.Reach.{here}
use Rattle.rules.proofs.Laws.Compared.{Precedes}
use Rattle.rules.proofs.Invariant.View.{nodes_of, seats_of, Reseated, walking, Linked}
use Rattle.rules.proofs.Invariant.Phases.{outside_busy, linked_busy}
use Rattle.rules.proofs.Invariant.Clauses.{Ordered, from_prev, Invariant}
use Rattle.rules.proofs.Invariant.Known.{Known, named_in, precedes_ordered, own_pos, own_proper, hidden}
use Rattle.rules.proofs.Invariant.Unlink.{unlink_keeps}
use Rattle.rules.proofs.Invariant.Insert.{Starts, insert_keeps}
use Rattle.rules.proofs.Invariant.Leave.{Leaves, leave_keeps}
use Rattle.rules.proofs.Rules.Effects.{Seated, reseated, same_nodes, only_links, only_marks}
use Rattle.rules.proofs.Rules.Reasons.{Joined}
use Rattle.rules.proofs.Keeping.Aside.{SeatAside, Aside, link_put, word_put, count_put, seat_put, node_room, linked_in}

pub record Good (N S : ℕ) (t : Tables) : Type 0 where
  pub aside : Aside N S t
  pub inv : Invariant N (nodes_of t) (seats_of t)

-- ---- a count is stored: the invariant does not look at it
pub counts_on : {N S : ℕ} {t : Tables} → Good N S t → (k v : ℕ) → Good N S (set_count t k v)
counts_on {N} {t = t} g k v = record { aside = count_put g.aside k v; inv = subst (λ n. Invariant N n (seats_of t)) (same_nodes t k v) g.inv }

-- ---- a seat moves
pub moves : {N S : ℕ} {t : Tables} {s : ℕ} {words : ℕ → ℕ} {seats : List ℕ} → Good N S t → Seated t.sheet t.seats seats s words → SeatAside t.sheet words
    → (Reseated (seats_of t) (seats_of (tables t.sheet t.nodes seats)) s (words phase_at) (words own_at) (words prev_at) (words cur_at)
    → Invariant N (nodes_of t) (seats_of (tables t.sheet t.nodes seats)))
    → Good N S (tables t.sheet t.nodes seats)
moves {t = t} {seats = seats} g w k f =
    record { aside = seat_put g.aside w k; inv = f (reseated t (tables t.sheet t.nodes seats) refl w) }

-- ---- a link that led to a marked node passes over it
pub passes_over : {N S : ℕ} {t : Tables} → Good N S t → (p out : ℕ) → p ≤ N → Known (link t) (seats_of t) p
    → out ≢ 0 → mark t out ≡ 1 → link t p ≡ out → Good N S (set_link t p (next t out))
passes_over {N} {t = t} g p out p_in known out_pos gone joins =
    let l = t.nodes in
    let v = next t out in
    let old : (a : ℕ) → a ≢ p → link (set_link t p v) a ≡ link t a = λ a d. link_put_other t.sheet l p a v (λ e. d (sym e)) in
    record {
      aside = link_put g.aside p v;
      inv = subst (λ n. Invariant N n (seats_of t)) (only_links t (set_link t p v) (λ a f h d. node_put_link t.sheet l p a f v h d))
          (unlink_keeps g.inv (link (set_link t p v)) p out known (omega arith) gone joins (link_put_same t.sheet l p v (node_room g.aside p p_in)) old);
    }

-- linking in changes links alone
pub link_in_words : (t : Tables) (s a f : ℕ) → f < node_width → f ≢ next_at → node_word (link_in t s).sheet (link_in t s).nodes a f ≡ node_word t.sheet t.nodes a f
unfolding link_in
link_in_words t s a f h d =
    node_put_link t.sheet (put_link t.sheet t.nodes (own t s) (cur t s)) (prev t s) a f (own t s) h d ∙ node_put_link t.sheet t.nodes (own t s) a f (cur t s) h d

module _ {N S : ℕ} {t : Tables} (g : Good N S t) (s : ℕ) where
  abbrev o : ℕ
  o = own t s

  abbrev p : ℕ
  p = prev t s

  abbrev c : ℕ
  c = cur t s

  pub prev_in : p ≤ N
  prev_in = named_in (g.inv.seats s).prev_named

  pub own_in : o ≤ N
  own_in = named_in (g.inv.seats s).own_named

  -- ---- own is linked in behind prev
  module _ (walks : phase t s ≡ 1) (join : Joined t s) (front : (c ≡ 0) ⊎ Precedes (claim_of t o) (claim_of t c)) where
    own_not_prev : o ≢ p
    own_not_prev e =
        let h : 0 < o = own_pos g.inv s (outside_busy (walking walks)) in
        hidden g.inv {i = s} (walking walks) (from_prev s (rw e (here (rw e at h))))

    pub new_prev : link (link_in t s) p ≡ o
    unfolding link_in
    new_prev = link_put_same t.sheet (put_link t.sheet t.nodes o c) p o (let l = put_link_length t.sheet t.nodes o c in let h = node_room g.aside p prev_in in omega arith)

    pub new_own : link (link_in t s) o ≡ c
    unfolding link_in
    new_own = link_put_other t.sheet (put_link t.sheet t.nodes o c) p o o (λ e. own_not_prev (sym e)) ∙ link_put_same t.sheet t.nodes o c (node_room g.aside o own_in)

    pub old_links : (a : ℕ) → a ≢ o → a ≢ p → link (link_in t s) a ≡ link t a
    unfolding link_in
    old_links a d d' = link_put_other t.sheet (put_link t.sheet t.nodes o c) p a o (λ e. d' (sym e)) ∙ link_put_other t.sheet t.nodes o a c (λ e. d (sym e))

    linked_aside : {seats : List ℕ} {words : ℕ → ℕ} → Seated t.sheet t.seats seats s words → SeatAside t.sheet words → Aside N S (tables t.sheet (link_in t s).nodes seats)
    unfolding link_in
    linked_aside w k = seat_put (linked_in g.aside s) w k

    in_front : 0 < link t p → Ordered (claim_of t o) (claim_of t (link t p))
    in_front h =
        rw join.to_cur
        (elim front [
          | inl e ↦ absurd (let z = join.to_cur in omega arith)
          | inr q ↦ precedes_ordered (own_proper g.inv s (outside_busy (walking walks))) q
        ])

    pub links_in_good : {seats : List ℕ} {words : ℕ → ℕ} → Seated t.sheet t.seats seats s words → words own_at ≡ o → SeatAside t.sheet words
        → Starts (nodes_of t) (link (link_in t s)) o p (words phase_at) (words prev_at) (words cur_at) → Good N S (tables t.sheet (link_in t s).nodes seats)
    unfolding link_in
    links_in_good {seats} {words} w e k st = record {
      aside = linked_aside w k;
      inv = subst (λ n. Invariant N n (seats_of (tables t.sheet (link_in t s).nodes seats))) (only_links t (link_in t s) (link_in_words t s))
          (insert_keeps g.inv (link (link_in t s)) s (words phase_at) (words prev_at) (words cur_at) walks join.unmarked
          (new_own ∙ sym join.to_cur) new_prev old_links (rw e at (reseated t (tables t.sheet (link_in t s).nodes seats) refl w)) st in_front);
    }

  -- ---- own is marked and the seat leaves
  pub leaves_good : {seats : List ℕ} {words : ℕ → ℕ} → Linked (phase t s) → Seated t.sheet t.seats seats s words → SeatAside t.sheet words
      → words prev_at ≡ 0 → words cur_at ≡ 0 → Leaves o (words phase_at) (words own_at) → Good N S (tables t.sheet (set_mark t o 1).nodes seats)
  leaves_good {seats} {words} l w k ep ec lv =
      let h : o ≢ 0 = let x = own_pos g.inv s (linked_busy l) in omega arith in
      let ns = t.nodes in
      let u = tables t.sheet (set_mark t o 1).nodes seats in
      let r : Reseated (seats_of t) (seats_of u) s (words phase_at) (words own_at) 0 0 = rw (ep, ec) at (reseated t u refl w) in
      record {
        aside = seat_put (word_put g.aside mark_at o 1 (omega arith) (omega arith)) w k;
        inv = subst (λ n. Invariant N n (seats_of u))
            (only_marks t (set_mark t o 1) (λ a f b d. node_put_field t.sheet ns o a mark_at f 1 (omega arith) b (λ e. d (sym e)))
            (λ a. link_put_field t.sheet ns o a mark_at 1 (omega arith) (omega arith)))
            (leave_keeps g.inv (mark (set_mark t o 1)) s (words phase_at) (words own_at) l lv r (node_put_same t.sheet ns o mark_at 1 (omega arith) h (node_room g.aside o own_in))
            (λ a d. node_put_node t.sheet ns o a mark_at mark_at 1 (omega arith) (omega arith) (λ e. d (sym e))));
      }
