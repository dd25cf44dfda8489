-- What a store leaves in each word of the tables, N and S by the lengths, the words of fresh tables, and stores that come to nothing new: the
-- one place beside specs/Tables.antt that knows where a word stands. Stated over the node, the seat, the field and the value; all above
-- cites these.
use Prim.Native.Nat.{ℕ, zero, suc, ◌+◌, ◌*◌, ◌/◌, ◌<◌, ◌≤◌}
use mathlib.Core.Path.{◌≡◌, refl, sym, ap, ◌∙◌}
use mathlib.Core.Bool.{Bool, true, false}
use mathlib.Core.List.{List}
use mathlib.Core.Logic.{◌≢◌}
use native.Mathlib.Omega.{arith}
use native.Mathlib.Decide.{dec_lt}
use lib.ListN.{get_or, set, length, length-set, length-replicate, get_or-replicate, get_or-eq_default}
use lib.Seq.{ext_get_or, set-get_or, get_or-set_same, get_or-set_other}
use Rattle.rules.specs.Tables.{Tables, tables, head_at, title_at, count_at, count_word, set_count, before_nodes, node_width, seat_width, next_at, top_word, put_top, node_word, put_node, link_word, put_link, seat_word, put_seat, node_count_of, seat_count_of, node_count, seat_count, title, link, set_link, zeros, fresh}
use Rattle.rules.specs.Notation.{◌is◌}
use Rattle.rules.proofs.Ground.Deciding.{if_same}
use Rattle.rules.proofs.Ground.Logic.{branch}

-- ---- lengths
pub put_node_length : (sheet : Bool) (l : List ℕ) (a f v : ℕ) → length (put_node sheet l a f v) ≡ length l
unfolding put_node
put_node_length sheet l zero f v = refl
put_node_length sheet l (suc m) f v = simp length-set

pub put_link_length : (sheet : Bool) (l : List ℕ) (a v : ℕ) → length (put_link sheet l a v) ≡ length l
unfolding put_link
put_link_length sheet l zero v = simp length-set
put_link_length sheet l (suc m) v = put_node_length sheet l (suc m) next_at v

pub put_top_length : (l : List ℕ) (i v : ℕ) → length (put_top l i v) ≡ length l
put_top_length l i v = simp length-set

pub put_seat_length : (sheet : Bool) (l : List ℕ) (s f v : ℕ) → length (put_seat sheet l s f v) ≡ length l
unfolding put_seat
put_seat_length sheet l s f v = simp length-set

-- N and S depend on the lengths alone
pub same_node_count : (t u : Tables) → u.sheet ≡ t.sheet → length u.nodes ≡ length t.nodes → node_count u ≡ node_count t
unfolding node_count_of
same_node_count t u k e = rw (k, e)

pub same_seat_count : (t u : Tables) → u.sheet ≡ t.sheet → length u.seats ≡ length t.seats → seat_count u ≡ seat_count t
unfolding seat_count_of
same_seat_count t u k e = rw (k, e)

-- ---- a word after a store to any
-- what holds of the word before and of the value stored holds of it, whether the table has it or not
put_has : (P : ℕ → Type 0) (l : List ℕ) (i k v : ℕ) → P v → P (get_or l k 0) → P (get_or (set l i v) k 0)
put_has P l i k v h j =
    if_same i k
    (λ e. elim (dec_lt i (length l)) [
      | yes q ↦ rw (← e, get_or-set_same l i v 0 q) h
      | no q ↦ rw (← e, get_or-eq_default (set l i v) 0 {n = i} (let r = length-set l i v in omega arith))
          (rw (get_or-eq_default l 0 {n = i} (omega arith)) at (rw (← e) at j))
    ])
    (λ d. rw (get_or-set_other l i k v 0 (λ e. d (sym e))) j)

-- a word that is not 0 stands in the table
put_there : (l : List ℕ) (i v : ℕ) → get_or l i 0 ≢ 0 → get_or (set l i v) i 0 ≡ v
put_there l i v d = elim (dec_lt i (length l)) [
  | yes h ↦ get_or-set_same l i v 0 h
  | no h ↦ absurd (d (get_or-eq_default l 0 {n = i} (omega arith)))
]

-- ---- a node's words after a store to a node's word
pub node_put_same : (sheet : Bool) (l : List ℕ) (a f v : ℕ) → f < node_width → a ≢ 0 → before_nodes sheet + node_width * a ≤ length l → node_word sheet (put_node sheet l a f v) a f ≡ v
unfolding node_word put_node
node_put_same sheet l zero f v h z i = absurd (z refl)
node_put_same sheet l (suc m) f v h z i = get_or-set_same l (before_nodes sheet + node_width * m + f) v 0 (omega arith)

pub node_put_field : (sheet : Bool) (l : List ℕ) (a b f g v : ℕ) → f < node_width → g < node_width → f ≢ g → node_word sheet (put_node sheet l a f v) b g ≡ node_word sheet l b g
unfolding node_word put_node
node_put_field sheet l zero b f g v h i d = refl
node_put_field sheet l (suc m) zero f g v h i d = refl
node_put_field sheet l (suc m) (suc k) f g v h i d =
    get_or-set_other l (before_nodes sheet + node_width * m + f) (before_nodes sheet + node_width * k + g) v 0 (λ e. d (omega arith))

pub node_put_node : (sheet : Bool) (l : List ℕ) (a b f g v : ℕ) → f < node_width → g < node_width → a ≢ b → node_word sheet (put_node sheet l a f v) b g ≡ node_word sheet l b g
unfolding node_word put_node
node_put_node sheet l zero b f g v h i d = refl
node_put_node sheet l (suc m) zero f g v h i d = refl
node_put_node sheet l (suc m) (suc k) f g v h i d =
    get_or-set_other l (before_nodes sheet + node_width * m + f) (before_nodes sheet + node_width * k + g) v 0 (λ e. d (omega arith))

-- so it is of a word of every node, whether the table has the node or not
pub node_put_has : (P : ℕ → Type 0) (sheet : Bool) (l : List ℕ) (a b f v : ℕ) → P v → P (node_word sheet l b f) → P (node_word sheet (put_node sheet l a f v) b f)
unfolding node_word put_node
node_put_has P sheet l zero b f v i j = j
node_put_has P sheet l (suc m) zero f v i j = j
node_put_has P sheet l (suc m) (suc k) f v i j = put_has P l (before_nodes sheet + node_width * m + f) (before_nodes sheet + node_width * k + f) v i j

-- node 0 has only zeros
pub node_zero : (sheet : Bool) (l : List ℕ) (f : ℕ) → node_word sheet l 0 f ≡ 0
unfolding node_word
node_zero sheet l f = refl

-- ---- links
pub link_node : (sheet : Bool) (l : List ℕ) (a : ℕ) → a ≢ 0 → link_word sheet l a ≡ node_word sheet l a next_at
unfolding link_word
link_node sheet l zero z = absurd (z refl)
link_node sheet l (suc m) z = refl

pub put_link_node : (sheet : Bool) (l : List ℕ) (a v : ℕ) → a ≢ 0 → put_link sheet l a v ≡ put_node sheet l a next_at v
unfolding put_link
put_link_node sheet l zero v z = absurd (z refl)
put_link_node sheet l (suc m) v z = refl

-- a store to any other field leaves every link
pub link_put_field : (sheet : Bool) (l : List ℕ) (a b f v : ℕ) → f < node_width → f ≢ next_at → link_word sheet (put_node sheet l a f v) b ≡ link_word sheet l b
unfolding link_word put_node
link_put_field sheet l zero b f v h d = refl
link_put_field sheet l (suc m) zero f v h d = get_or-set_other l (before_nodes sheet + node_width * m + f) head_at v 0 (λ e. omega arith)
link_put_field sheet l (suc m) (suc k) f v h d = node_put_field sheet l (suc m) (suc k) f next_at v h (omega arith) d

-- a store to a link leaves every other field
pub node_put_link : (sheet : Bool) (l : List ℕ) (a b g v : ℕ) → g < node_width → g ≢ next_at → node_word sheet (put_link sheet l a v) b g ≡ node_word sheet l b g
unfolding put_link node_word
node_put_link sheet l zero zero g v h d = refl
node_put_link sheet l zero (suc k) g v h d = get_or-set_other l head_at (before_nodes sheet + node_width * k + g) v 0 (λ e. omega arith)
node_put_link sheet l (suc m) b g v h d = node_put_field sheet l (suc m) b next_at g v (omega arith) h (λ e. d (sym e))

pub link_put_same : (sheet : Bool) (l : List ℕ) (a v : ℕ) → before_nodes sheet + node_width * a ≤ length l → link_word sheet (put_link sheet l a v) a ≡ v
unfolding link_word put_link
link_put_same sheet l zero v h = get_or-set_same l head_at v 0 (omega arith)
link_put_same sheet l (suc m) v h = node_put_same sheet l (suc m) next_at v (omega arith) (λ e. omega arith) h

-- a link that is not 0 stands in the table
pub link_put_there : (sheet : Bool) (l : List ℕ) (a v : ℕ) → link_word sheet l a ≢ 0 → link_word sheet (put_link sheet l a v) a ≡ v
unfolding link_word put_link node_word put_node
link_put_there sheet l zero v d = put_there l head_at v d
link_put_there sheet l (suc m) v d = put_there l (before_nodes sheet + node_width * m + next_at) v d

-- a store keeps a bound on every link
pub link_put_at_most : (sheet : Bool) (l : List ℕ) (a b v most : ℕ) → v ≤ most → link_word sheet l b ≤ most → link_word sheet (put_link sheet l a v) b ≤ most
unfolding link_word put_link node_word put_node
link_put_at_most sheet l zero zero v most h j = put_has (λ x. x ≤ most) l head_at head_at v h j
link_put_at_most sheet l zero (suc k) v most h j = put_has (λ x. x ≤ most) l head_at (before_nodes sheet + node_width * k + next_at) v h j
link_put_at_most sheet l (suc m) zero v most h j = put_has (λ x. x ≤ most) l (before_nodes sheet + node_width * m + next_at) head_at v h j
link_put_at_most sheet l (suc m) (suc k) v most h j =
    put_has (λ x. x ≤ most) l (before_nodes sheet + node_width * m + next_at) (before_nodes sheet + node_width * k + next_at) v h j

pub link_put_other : (sheet : Bool) (l : List ℕ) (a b v : ℕ) → a ≢ b → link_word sheet (put_link sheet l a v) b ≡ link_word sheet l b
unfolding link_word put_link node_word put_node
link_put_other sheet l zero zero v d = absurd (d refl)
link_put_other sheet l zero (suc k) v d = get_or-set_other l head_at (before_nodes sheet + node_width * k + next_at) v 0 (λ e. omega arith)
link_put_other sheet l (suc m) zero v d = get_or-set_other l (before_nodes sheet + node_width * m + next_at) head_at v 0 (λ e. omega arith)
link_put_other sheet l (suc m) (suc k) v d = node_put_node sheet l (suc m) (suc k) next_at next_at v (omega arith) (omega arith) d

-- ---- the words before node 1: a store to a node leaves them, and a store to a link all but the head
pub top_put_node : (sheet : Bool) (l : List ℕ) (i a f v : ℕ) → i < before_nodes sheet → top_word (put_node sheet l a f v) i ≡ top_word l i
unfolding put_node
top_put_node sheet l i zero f v h = refl
top_put_node sheet l i (suc m) f v h = get_or-set_other l (before_nodes sheet + node_width * m + f) i v 0 (λ e. omega arith)

pub top_put_link : (sheet : Bool) (l : List ℕ) (i a v : ℕ) → i < before_nodes sheet → i ≢ head_at → top_word (put_link sheet l a v) i ≡ top_word l i
unfolding put_link
top_put_link sheet l i zero v h d = get_or-set_other l head_at i v 0 (λ e. d (omega arith))
top_put_link sheet l i (suc m) v h d = top_put_node sheet l i (suc m) next_at v h

-- a store to one of them leaves the others and, if it is not the head's, every node and every link
pub top_put_same : (l : List ℕ) (i v : ℕ) → i < length l → top_word (put_top l i v) i ≡ v
top_put_same l i v h = get_or-set_same l i v 0 h

pub top_put_other : (l : List ℕ) (i j v : ℕ) → i ≢ j → top_word (put_top l i v) j ≡ top_word l j
top_put_other l i j v d = get_or-set_other l i j v 0 (λ e. d (sym e))

pub node_put_top : (sheet : Bool) (l : List ℕ) (i a f v : ℕ) → i < before_nodes sheet → node_word sheet (put_top l i v) a f ≡ node_word sheet l a f
unfolding node_word
node_put_top sheet l i zero f v h = refl
node_put_top sheet l i (suc m) f v h = get_or-set_other l i (before_nodes sheet + node_width * m + f) v 0 (λ e. omega arith)

pub link_put_top : (sheet : Bool) (l : List ℕ) (i a v : ℕ) → i < before_nodes sheet → i ≢ head_at → link_word sheet (put_top l i v) a ≡ link_word sheet l a
unfolding link_word
link_put_top sheet l i zero v h d = top_put_other l i head_at v d
link_put_top sheet l i (suc m) v h d = node_put_top sheet l i (suc m) next_at v h

-- the two counts stand before node 1, behind the head and before the title
pub count_low : (sheet : Bool) (k : ℕ) → count_at k < before_nodes sheet
count_low sheet k = branch (λ (i : ℕ). i < before_nodes sheet) (k is 1) (λ e. omega arith) (λ e. omega arith)

pub count_not_head : (k : ℕ) → count_at k ≢ head_at
count_not_head k = branch (λ (i : ℕ). i ≢ head_at) (k is 1) (λ e. omega arith) (λ e. omega arith)

pub count_not_title : (k : ℕ) → count_at k ≢ title_at
count_not_title k = branch (λ (i : ℕ). i ≢ title_at) (k is 1) (λ e. omega arith) (λ e. omega arith)

pub count_put_same : (t : Tables) (k v : ℕ) → before_nodes t.sheet ≤ length t.nodes → count_word (set_count t k v) k ≡ v
count_put_same t k v h = top_put_same t.nodes (count_at k) v (let l = count_low t.sheet k in omega arith)

pub count_put_other : (t : Tables) (k j v : ℕ) → count_at j ≢ count_at k → count_word (set_count t k v) j ≡ count_word t j
count_put_other t k j v d = top_put_other t.nodes (count_at k) (count_at j) v (λ e. d (sym e))

-- ---- where a seat's words stand: all that looks at the width of a seat. The width times a seat's number is a product of two numbers that are not
-- known here, so each of the two layouts is looked at by itself
-- two words of seats stand at one place only if they are the same word
seat_apart : (sheet : Bool) (s r f g : ℕ) → f < seat_width sheet → g < seat_width sheet → seat_width sheet * s + f ≡ seat_width sheet * r + g
    → (s ≡ r) × (f ≡ g)
seat_apart true s r f g h i e = (omega arith, omega arith)
seat_apart false s r f g h i e = (omega arith, omega arith)

-- of S seats, those below S have all their words in the table
pub seat_within : (sheet : Bool) (s S : ℕ) → s < S → seat_width sheet * s + seat_width sheet ≤ seat_width sheet * S
seat_within true s S h = omega arith
seat_within false s S h = omega arith

-- and the others none
seat_behind : (sheet : Bool) (s S f : ℕ) → S ≤ s → seat_width sheet * S ≤ seat_width sheet * s + f
seat_behind true s S f h = omega arith
seat_behind false s S f h = omega arith

seats_by_width : (sheet : Bool) (l S : ℕ) → l ≡ seat_width sheet * S → l / seat_width sheet ≡ S
seats_by_width true l S e = omega arith
seats_by_width false l S e = omega arith

-- ---- a seat's words after a store to a seat's word
pub seat_put_same : (sheet : Bool) (l : List ℕ) (s f v : ℕ) → f < seat_width sheet → seat_width sheet * s + seat_width sheet ≤ length l → seat_word sheet (put_seat sheet l s f v) s f ≡ v
unfolding seat_word put_seat
seat_put_same sheet l s f v h i = get_or-set_same l (seat_width sheet * s + f) v 0 (omega arith)

pub seat_put_field : (sheet : Bool) (l : List ℕ) (s r f g v : ℕ) → f < seat_width sheet → g < seat_width sheet → f ≢ g → seat_word sheet (put_seat sheet l s f v) r g ≡ seat_word sheet l r g
unfolding seat_word put_seat
seat_put_field sheet l s r f g v h i d =
    get_or-set_other l (seat_width sheet * s + f) (seat_width sheet * r + g) v 0 (λ e. d (sym (seat_apart sheet r s g f i h e).1))

pub seat_put_seat : (sheet : Bool) (l : List ℕ) (s r f g v : ℕ) → f < seat_width sheet → g < seat_width sheet → s ≢ r → seat_word sheet (put_seat sheet l s f v) r g ≡ seat_word sheet l r g
unfolding seat_word put_seat
seat_put_seat sheet l s r f g v h i d =
    get_or-set_other l (seat_width sheet * s + f) (seat_width sheet * r + g) v 0 (λ e. d (sym (seat_apart sheet r s g f i h e).0))

-- ---- what stands past the end reads 0
pub node_past : (t : Tables) (a f : ℕ) → f < node_width → length t.nodes ≡ before_nodes t.sheet + node_width * node_count t → node_count t < a → node_word t.sheet t.nodes a f ≡ 0
unfolding node_word
node_past t zero f h e p = refl
node_past t (suc m) f h e p = get_or-eq_default t.nodes 0 {n = before_nodes t.sheet + node_width * m + f} (omega arith)

pub link_past : (t : Tables) (a : ℕ) → length t.nodes ≡ before_nodes t.sheet + node_width * node_count t → node_count t < a → link_word t.sheet t.nodes a ≡ 0
link_past t a e p = link_node t.sheet t.nodes a (λ z. omega arith) ∙ node_past t a next_at (omega arith) e p

pub seat_past : (t : Tables) (s f : ℕ) → length t.seats ≡ seat_width t.sheet * seat_count t → seat_count t ≤ s → seat_word t.sheet t.seats s f ≡ 0
unfolding seat_word
seat_past t s f e p = get_or-eq_default t.seats 0 {n = seat_width t.sheet * s + f} (let b = seat_behind t.sheet s (seat_count t) f p in omega arith)

-- ---- N and S
pub node_count_law : (t : Tables) (N : ℕ) → length t.nodes ≡ before_nodes t.sheet + node_width * N → node_count t ≡ N
unfolding node_count_of
node_count_law t N e = omega arith

pub seat_count_law : (t : Tables) (S : ℕ) → length t.seats ≡ seat_width t.sheet * S → seat_count t ≡ S
unfolding seat_count_of
seat_count_law t S e = seats_by_width t.sheet (length t.seats) S e

-- ---- fresh tables
zero_at : (n k : ℕ) → ◌≡◌ {A = ℕ} (get_or (zeros n) k 0) 0
zero_at n k = elim (dec_lt k n) [
  | yes h ↦ get_or-replicate n k 0 0 h
  | no h ↦ get_or-eq_default {A = ℕ} (zeros n) 0 {n = k} (let l = length-replicate {A = ℕ} n 0 in omega arith)
]

module _ (sheet : Bool) (N S frames : ℕ) where
  abbrev no_nodes : List ℕ
  no_nodes = zeros (before_nodes sheet + node_width * N)

  abbrev t₀ : Tables
  t₀ = fresh sheet N S frames

  pub fresh_nodes_length : length t₀.nodes ≡ before_nodes t₀.sheet + node_width * N
  unfolding fresh
  fresh_nodes_length = put_top_length no_nodes title_at frames ∙ length-replicate (before_nodes sheet + node_width * N) 0

  pub fresh_seats_length : length t₀.seats ≡ seat_width t₀.sheet * S
  unfolding fresh
  fresh_seats_length = length-replicate (seat_width sheet * S) 0

  pub fresh_node_word : (a f : ℕ) → node_word t₀.sheet t₀.nodes a f ≡ 0
  unfolding fresh node_word
  fresh_node_word zero f = refl
  fresh_node_word (suc m) f =
      node_put_top sheet no_nodes title_at (suc m) f frames (omega arith) ∙ zero_at (before_nodes sheet + node_width * N) (before_nodes sheet + node_width * m + f)

  pub fresh_title : title t₀ ≡ frames
  unfolding fresh
  fresh_title = top_put_same no_nodes title_at frames (let l = length-replicate {A = ℕ} (before_nodes sheet + node_width * N) 0 in omega arith)

  pub fresh_top : (i : ℕ) → i ≢ title_at → top_word t₀.nodes i ≡ 0
  unfolding fresh
  fresh_top i d = top_put_other no_nodes title_at i frames (λ e. d (sym e)) ∙ zero_at (before_nodes sheet + node_width * N) i

  pub fresh_link : (a : ℕ) → link_word t₀.sheet t₀.nodes a ≡ 0
  unfolding fresh link_word
  fresh_link zero = fresh_top head_at (omega arith)
  fresh_link (suc m) = fresh_node_word (suc m) next_at

  pub fresh_seat_word : (s f : ℕ) → seat_word t₀.sheet t₀.seats s f ≡ 0
  unfolding fresh seat_word
  fresh_seat_word s f = zero_at (seat_width sheet * S) (seat_width sheet * s + f)

-- ---- stores that come to nothing new
pub put_link_self : (sheet : Bool) (l : List ℕ) (a : ℕ) → put_link sheet l a (link_word sheet l a) ≡ l
unfolding put_link put_node link_word node_word
put_link_self sheet l zero = set-get_or l head_at 0
put_link_self sheet l (suc m) = set-get_or l (before_nodes sheet + node_width * m + next_at) 0

pub put_seat_self : (sheet : Bool) (l : List ℕ) (s f v : ℕ) → seat_word sheet l s f ≡ v → put_seat sheet l s f v ≡ l
unfolding put_seat seat_word
put_seat_self sheet l s f v e = ap (set l (seat_width sheet * s + f)) (sym e) ∙ set-get_or l (seat_width sheet * s + f) 0

pub same_link : (t : Tables) (a v : ℕ) → link t a ≡ v → set_link t a v ≡ t
same_link t a v e = ap (λ l. tables t.sheet l t.seats) (ap (put_link t.sheet t.nodes a) (sym e) ∙ put_link_self t.sheet t.nodes a)

set_twice : (l : List ℕ) (i v w : ℕ) → set (set l i v) i w ≡ set l i w
set_twice l i v w =
    ext_get_or 0 (set (set l i v) i w) (set l i w) (simp length-set)
    (λ j b. if_same j i
    (λ e. let b₁ : i < length (set l i v) = rw (e, length-set (set l i v) i w) at b in
    let b₂ : i < length l = rw (length-set l i v) at b₁ in
    rw e (get_or-set_same (set l i v) i w 0 b₁ ∙ sym (get_or-set_same l i w 0 b₂)))
    (λ d. get_or-set_other (set l i v) i j w 0 d ∙ get_or-set_other l i j v 0 d ∙ sym (get_or-set_other l i j w 0 d)))

pub put_link_twice : (sheet : Bool) (l : List ℕ) (a v w : ℕ) → put_link sheet (put_link sheet l a v) a w ≡ put_link sheet l a w
unfolding put_link put_node
put_link_twice sheet l zero v w = set_twice l head_at v w
put_link_twice sheet l (suc m) v w = set_twice l (before_nodes sheet + node_width * m + next_at) v w
