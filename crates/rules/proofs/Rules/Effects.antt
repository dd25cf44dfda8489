-- What stores do, seen from the theory: to the words of a seat or a node, one after another, and to the view of the nodes. Over any
-- tables that have room for the seat or the node.
use Rattle.std.specs.Prelude.{if◌then◌else◌}
use Prim.Native.Nat.{ℕ, zero, suc, ◌+◌, ◌*◌, ◌≤◌, ◌<◌}
use mathlib.Core.Path.{◌≡◌, refl, sym, ◌∙◌, fun_ext}
use mathlib.Core.Bool.{Bool}
use mathlib.Core.List.{List}
use mathlib.Core.Logic.{◌≢◌}
use native.Mathlib.Omega.{arith}
use lib.ListN.{length}
use borrow.Author.Tests.{eq-eqb, ne_eqb}
use Rattle.rules.specs.Notation.{◌is◌}
use Rattle.rules.specs.Tables.{Tables, before_nodes, node_width, seat_width, start_at, end_at, kind_at, mark_at, next_at, phase_at, own_at, prev_at, cur_at, node_word, link_word, seat_word, put_node, put_link, put_seat, clear_words, count_at, set_count, link, mark}
use Rattle.rules.proofs.Ground.Deciding.{if_same}
use Rattle.rules.proofs.Laws.Words.{seat_put_same, seat_put_field, seat_put_seat, put_seat_length, node_put_same, node_put_field, node_put_node, put_node_length, put_link_node, link_put_other, link_put_field, node_put_top, link_put_top, count_low, count_not_head}
use Rattle.rules.proofs.Invariant.View.{nodes_of, seats_of, relink, remark, Reseated}

-- ---- the words of one seat
abbrev pub Room : Tables → ℕ → Type 0
Room t s = seat_width t.sheet * s + seat_width t.sheet ≤ length t.seats

abbrev pub stored : (ℕ → ℕ) → ℕ → ℕ → ℕ → ℕ
stored words f v g = if g is f then v else words g

-- after some stores to seat s alone, its words are these
pub record Seated (sheet : Bool) (before after : List ℕ) (s : ℕ) (words : ℕ → ℕ) : Type 0 where
  pub at_s : (f : ℕ) → f < seat_width sheet → seat_word sheet after s f ≡ words f
  pub others : (r f : ℕ) → r ≢ s → f < seat_width sheet → seat_word sheet after r f ≡ seat_word sheet before r f
  pub long : length after ≡ length before

pub as_found : (sheet : Bool) (seats : List ℕ) (s : ℕ) → Seated sheet seats seats s (seat_word sheet seats s)
as_found sheet seats s = record { at_s = λ f h. refl; others = λ r f d h. refl; long = refl }

pub put : {sheet : Bool} {before after : List ℕ} {s : ℕ} {words : ℕ → ℕ} → seat_width sheet * s + seat_width sheet ≤ length before
    → Seated sheet before after s words → (f v : ℕ) → f < seat_width sheet → Seated sheet before (put_seat sheet after s f v) s (stored words f v)
put {sheet} {before} {after} {s} room w f v h = record {
  at_s = λ g k. if_same g f
      (λ e. rw (e, eq-eqb f f refl) (seat_put_same sheet after s f v h (let l = w.long in omega arith)))
      (λ d. rw (ne_eqb g f d) (seat_put_field sheet after s s f g v h k (λ e. d (sym e)) ∙ w.at_s g k));
  others = λ r g d k. seat_put_seat sheet after s r f g v h k (λ e. d (sym e)) ∙ w.others r g d k;
  long = put_seat_length sheet after s f v ∙ w.long;
}

-- ---- a seat cleared
abbrev zero_below : ℕ → (ℕ → ℕ) → ℕ → ℕ
zero_below zero words = words
zero_below (suc k) words = stored (zero_below k words) k 0

zero_below_law : (words : ℕ → ℕ) (k f : ℕ) → f < k → zero_below k words f ≡ 0
zero_below_law words zero f h = absurd (omega arith)
zero_below_law words (suc k) f h =
    if_same f k
    (λ e. rw (eq-eqb f k e))
    (λ d. rw (ne_eqb f k d) (zero_below_law words k f (omega arith)))

module _ (sheet : Bool) (seats : List ℕ) (s : ℕ) (room : seat_width sheet * s + seat_width sheet ≤ length seats) where
  cleared_to : (k : ℕ) → k ≤ seat_width sheet → Seated sheet seats (clear_words sheet k seats s) s (zero_below k (seat_word sheet seats s))
  unfolding clear_words
  cleared_to zero h = as_found sheet seats s
  cleared_to (suc k) h = put room (cleared_to k (omega arith)) k 0 (omega arith)

  pub cleared : Seated sheet seats (clear_words sheet (seat_width sheet) seats s) s (λ f. 0)
  cleared =
      let w = cleared_to (seat_width sheet) (omega arith) in
      record { at_s = λ f h. w.at_s f h ∙ zero_below_law (seat_word sheet seats s) (seat_width sheet) f h; others = w.others; long = w.long }

-- ---- as the view shows it
pub reseated : (t u : Tables) → u.sheet ≡ t.sheet → {s : ℕ} {words : ℕ → ℕ} → Seated t.sheet t.seats u.seats s words
    → Reseated (seats_of t) (seats_of u) s (words phase_at) (words own_at) (words prev_at) (words cur_at)
reseated t u k w = record {
  phase_i = rw k (w.at_s phase_at (omega arith));
  own_i = rw k (w.at_s own_at (omega arith));
  prev_i = rw k (w.at_s prev_at (omega arith));
  cur_i = rw k (w.at_s cur_at (omega arith));
  phase_j = λ r d. rw k (w.others r phase_at d (omega arith));
  own_j = λ r d. rw k (w.others r own_at d (omega arith));
  prev_j = λ r d. rw k (w.others r prev_at d (omega arith));
  cur_j = λ r d. rw k (w.others r cur_at d (omega arith));
}

-- ---- the words of one node
pub record Noded (sheet : Bool) (before after : List ℕ) (a : ℕ) (words : ℕ → ℕ) : Type 0 where
  pub at_a : (f : ℕ) → f < node_width → node_word sheet after a f ≡ words f
  pub others : (b f : ℕ) → b ≢ a → f < node_width → node_word sheet after b f ≡ node_word sheet before b f
  pub links : (b : ℕ) → b ≢ a → link_word sheet after b ≡ link_word sheet before b
  pub long : length after ≡ length before

pub node_as_found : (sheet : Bool) (nodes : List ℕ) (a : ℕ) → Noded sheet nodes nodes a (node_word sheet nodes a)
node_as_found sheet nodes a = record { at_a = λ f h. refl; others = λ b f d h. refl; links = λ b d. refl; long = refl }

module _ {sheet : Bool} {before after : List ℕ} {a : ℕ} {words : ℕ → ℕ} (pos : a ≢ 0) (room : before_nodes sheet + node_width * a ≤ length before)
    (w : Noded sheet before after a words) where
  -- the link of a node is its word like the others
  link_away : (f v b : ℕ) → f < node_width → b ≢ a → link_word sheet (put_node sheet after a f v) b ≡ link_word sheet after b
  link_away f v b h d =
      if_same f next_at
      (λ e. rw (e, ← put_link_node sheet after a v pos) (link_put_other sheet after a b v (λ q. d (sym q))))
      (λ k. link_put_field sheet after a b f v h k)

  pub put_word : (f v : ℕ) → f < node_width → Noded sheet before (put_node sheet after a f v) a (stored words f v)
  put_word f v h = record {
    at_a = λ g k. if_same g f
        (λ e. rw (e, eq-eqb f f refl) (node_put_same sheet after a f v h pos (let l = w.long in omega arith)))
        (λ d. rw (ne_eqb g f d) (node_put_field sheet after a a f g v h k (λ e. d (sym e)) ∙ w.at_a g k));
    others = λ b g d k. node_put_node sheet after a b f g v h k (λ e. d (sym e)) ∙ w.others b g d k;
    links = λ b d. link_away f v b h d ∙ w.links b d;
    long = put_node_length sheet after a f v ∙ w.long;
  }

  pub put_next : (v : ℕ) → Noded sheet before (put_link sheet after a v) a (stored words next_at v)
  put_next v = rw (put_link_node sheet after a v pos) (put_word next_at v (omega arith))

-- ---- the view of the nodes: a count is outside it, and links or marks alone may change
pub same_nodes : (t : Tables) (k v : ℕ) → nodes_of t ≡ nodes_of (set_count t k v)
same_nodes t k v = λ i. record {
  start = fun_ext (λ a. sym (node_put_top t.sheet t.nodes (count_at k) a start_at v (count_low t.sheet k))) i;
  end = fun_ext (λ a. sym (node_put_top t.sheet t.nodes (count_at k) a end_at v (count_low t.sheet k))) i;
  kind = fun_ext (λ a. sym (node_put_top t.sheet t.nodes (count_at k) a kind_at v (count_low t.sheet k))) i;
  mark = fun_ext (λ a. sym (node_put_top t.sheet t.nodes (count_at k) a mark_at v (count_low t.sheet k))) i;
  link = fun_ext (λ a. sym (link_put_top t.sheet t.nodes (count_at k) a v (count_low t.sheet k) (count_not_head k))) i;
}

pub only_links : (t u : Tables) → ((a f : ℕ) → f < node_width → f ≢ next_at → node_word u.sheet u.nodes a f ≡ node_word t.sheet t.nodes a f)
    → relink (nodes_of t) (link u) ≡ nodes_of u
only_links t u e = λ i. record {
  start = fun_ext (λ a. sym (e a start_at (omega arith) (omega arith))) i;
  end = fun_ext (λ a. sym (e a end_at (omega arith) (omega arith))) i;
  kind = fun_ext (λ a. sym (e a kind_at (omega arith) (omega arith))) i;
  mark = fun_ext (λ a. sym (e a mark_at (omega arith) (omega arith))) i;
  link = link u;
}

pub only_marks : (t u : Tables) → ((a f : ℕ) → f < node_width → f ≢ mark_at → node_word u.sheet u.nodes a f ≡ node_word t.sheet t.nodes a f)
    → ((a : ℕ) → link u a ≡ link t a) → remark (nodes_of t) (mark u) ≡ nodes_of u
only_marks t u e l = λ i. record {
  start = fun_ext (λ a. sym (e a start_at (omega arith) (omega arith))) i;
  end = fun_ext (λ a. sym (e a end_at (omega arith) (omega arith))) i;
  kind = fun_ext (λ a. sym (e a kind_at (omega arith) (omega arith))) i;
  mark = mark u;
  link = fun_ext (λ a. sym (l a)) i;
}
