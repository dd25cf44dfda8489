-- The place of each word as the code works it out (node a, from 1, stands at a - 1), and the lengths.
use Prim.Native.Nat.{ℕ, zero, suc, ◌+◌, ◌-◌, ◌*◌, ◌/◌, ◌≤◌, ◌<◌}
use mathlib.Core.Path.{◌≡◌, refl, sym, ◌∙◌}
use mathlib.Core.List.{List, []}
use mathlib.Core.Bool.{Bool, true, false, ◌&&◌}
use lib.Dec.{eqb, leb, ltb}
use mathlib.Core.Logic.{◌≢◌}
use native.Mathlib.Omega.{arith}
use native.Mathlib.Numerals.{add-one}
use borrow.Author.Tests.{ne_eqb, leb-true, le-leb, ltb-true}
use lib.ListN.{get_or, set, length, take, drop, length-append, length-drop, length-replicate}
use lib.Seq.{take_all, get_or-append-add, get_or-drop}
use Rattle.rules.specs.Tables.{tables, before_nodes, node_width, seat_width, node_count_of, seat_count_of, head_at, readers_at, writers_at, count_at, next_at, node_word, put_node, link_word, put_link, count_word, set_count, seat_word, put_seat, clear_words, zeros}
use Rattle.rules.specs.Shape.{nodes_fit, seats_fit}
use Rattle.rules.proofs.Ground.Logic.{same, and_left, and_right}
use Rattle.rules.proofs.Laws.Words.{link_node, put_link_node, seat_within}
use Rattle.words.specs.Parts.{with_zeros}

-- ---- a node's word at its place
at_place : (sheet : Bool) (m f p : ℕ) → p ≡ before_nodes sheet + node_width * (suc m - 1) + f → p ≡ before_nodes sheet + node_width * m + f
at_place sheet m f p e = omega arith

pub read_node : (sheet : Bool) (l : List ℕ) (a f p r : ℕ) → r ≡ get_or l p 0 → p ≡ before_nodes sheet + node_width * (a - 1) + f → a ≢ 0 → r ≡ node_word sheet l a f
unfolding node_word
read_node sheet l zero f p r e q z = absurd (z refl)
read_node sheet l (suc m) f p r e q z = rw (at_place sheet m f p q) at e

pub store_node : (sheet : Bool) (l l' : List ℕ) (a f p v : ℕ) → l' ≡ set l p v → p ≡ before_nodes sheet + node_width * (a - 1) + f → a ≢ 0 → l' ≡ put_node sheet l a f v
unfolding put_node
store_node sheet l l' zero f p v e q z = absurd (z refl)
store_node sheet l l' (suc m) f p v e q z = rw (at_place sheet m f p q) at e

-- a word of a node that the table has
pub node_in : (sheet : Bool) (l : List ℕ) (a f p : ℕ) → p ≡ before_nodes sheet + node_width * (a - 1) + f → a ≢ 0 → a ≤ node_count_of sheet l → f < node_width → p < length l
unfolding node_count_of
node_in sheet l a f p e z h i = omega arith

-- ---- a node's word in the part from node 1 on
with_zeros_at : (sheet : Bool) (l : List ℕ) (p : ℕ) → get_or (with_zeros sheet l) (before_nodes sheet + p) 0 ≡ get_or l p 0
unfolding with_zeros
with_zeros_at sheet l p = rw (length-replicate {A = ℕ} (before_nodes sheet) 0) at (get_or-append-add (zeros (before_nodes sheet)) l p 0)

with_zeros_length : (sheet : Bool) (l : List ℕ) → length (with_zeros sheet l) ≡ before_nodes sheet + length l
unfolding with_zeros
with_zeros_length sheet l = rw (length-replicate {A = ℕ} (before_nodes sheet) 0) at (length-append (zeros (before_nodes sheet)) l)

pub read_part : (sheet : Bool) (l : List ℕ) (a f p r : ℕ) → r ≡ get_or l p 0 → p ≡ node_width * (a - 1) + f → a ≢ 0 → r ≡ node_word sheet (with_zeros sheet l) a f
read_part sheet l a f p r e q z = read_node sheet (with_zeros sheet l) a f (before_nodes sheet + p) r (e ∙ sym (with_zeros_at sheet l p)) (omega arith) z

pub part_in : (sheet : Bool) (l : List ℕ) (a f p : ℕ) → p ≡ node_width * (a - 1) + f → a ≢ 0 → a ≤ node_count_of sheet (with_zeros sheet l) → f < node_width → p < length l
part_in sheet l a f p e z h i =
    let w = with_zeros_length sheet l in
    let q = node_in sheet (with_zeros sheet l) a f (before_nodes sheet + p) (omega arith) z h i in
    omega arith

-- a slice's part to its end
pub to_the_end : (sheet : Bool) (l : List ℕ) (b : ℕ) → b ≡ before_nodes sheet → take (length l - b) (drop b l) ≡ drop (before_nodes sheet) l
to_the_end sheet l b e = rw (← e) (take_all (length l - b) (drop b l) (let d = length-drop b l in omega arith))

-- ---- what is said of the part of a table is said of the table
pub same_node : (sheet : Bool) (l : List ℕ) (a f : ℕ) → node_word sheet (with_zeros sheet (drop (before_nodes sheet) l)) a f ≡ node_word sheet l a f
unfolding node_word
same_node sheet l zero f = refl
same_node sheet l (suc m) f =
    let e : before_nodes sheet + node_width * m + f ≡ before_nodes sheet + (node_width * m + f) = omega arith in
    rw e (with_zeros_at sheet (drop (before_nodes sheet) l) (node_width * m + f) ∙ get_or-drop (before_nodes sheet) l (node_width * m + f) 0)

pub same_next : (sheet : Bool) (l : List ℕ) (a : ℕ) → a ≢ 0 → link_word sheet (with_zeros sheet (drop (before_nodes sheet) l)) a ≡ link_word sheet l a
same_next sheet l a z = link_node sheet (with_zeros sheet (drop (before_nodes sheet) l)) a z ∙ same_node sheet l a next_at ∙ sym (link_node sheet l a z)

pub same_count : (sheet : Bool) (l : List ℕ) → node_count_of sheet (with_zeros sheet (drop (before_nodes sheet) l)) ≡ node_count_of sheet l
unfolding node_count_of
same_count sheet l = let w = with_zeros_length sheet (drop (before_nodes sheet) l) in let d = length-drop (before_nodes sheet) l in omega arith

-- ---- links
pub read_head : (sheet : Bool) (l : List ℕ) (a r : ℕ) → a ≡ 0 → r ≡ get_or l head_at 0 → r ≡ link_word sheet l a
unfolding link_word
read_head sheet l a r z e = rw z e

pub read_next : (sheet : Bool) (l : List ℕ) (a r : ℕ) → a ≢ 0 → r ≡ node_word sheet l a next_at → r ≡ link_word sheet l a
read_next sheet l a r z e = e ∙ sym (link_node sheet l a z)

pub store_head : (sheet : Bool) (l l' : List ℕ) (a v : ℕ) → a ≡ 0 → l' ≡ set l head_at v → l' ≡ put_link sheet l a v
unfolding put_link
store_head sheet l l' a v z e = rw z e

pub store_next : (sheet : Bool) (l l' : List ℕ) (a v : ℕ) → a ≢ 0 → l' ≡ put_node sheet l a next_at v → l' ≡ put_link sheet l a v
store_next sheet l l' a v z e = e ∙ sym (put_link_node sheet l a v z)

-- ---- the counts
pub readers_at_law : (k : ℕ) → k ≡ 1 → readers_at ≡ count_at k
readers_at_law k e = rw e

pub writers_at_law : (k : ℕ) → k ≢ 1 → writers_at ≡ count_at k
writers_at_law k d = rw (ne_eqb k 1 d)

pub read_count : (sheet : Bool) (l : List ℕ) (k p r : ℕ) → r ≡ get_or l p 0 → p ≡ count_at k → r ≡ count_word (tables sheet l []) k
read_count sheet l k p r e q = rw q at e

pub store_count : (sheet : Bool) (l l' : List ℕ) (k p v : ℕ) → l' ≡ set l p v → p ≡ count_at k → l' ≡ (set_count (tables sheet l []) k v).nodes
store_count sheet l l' k p v e q = rw q at e

-- ---- a seat's word at its place
pub read_seat : (sheet : Bool) (l : List ℕ) (s f p r : ℕ) → r ≡ get_or l p 0 → p ≡ seat_width sheet * s + f → r ≡ seat_word sheet l s f
unfolding seat_word
read_seat sheet l s f p r e q = rw q at e

pub store_seat : (sheet : Bool) (l l' : List ℕ) (s f p v : ℕ) → l' ≡ set l p v → p ≡ seat_width sheet * s + f → l' ≡ put_seat sheet l s f v
unfolding put_seat
store_seat sheet l l' s f p v e q = rw q at e

-- in the part of one seat
pub read_field : (sheet : Bool) (l : List ℕ) (f r : ℕ) → r ≡ get_or l f 0 → r ≡ seat_word sheet l 0 f
read_field sheet l f r e = read_seat sheet l 0 f f r e (omega arith)

pub store_field : (sheet : Bool) (l l' : List ℕ) (f v : ℕ) → l' ≡ set l f v → l' ≡ put_seat sheet l 0 f v
store_field sheet l l' f v e = store_seat sheet l l' 0 f f v e (omega arith)

-- ---- how many seats there are, in each of the two layouts
whole_seats : (sheet : Bool) (l : ℕ) → seat_width sheet * (l / seat_width sheet) ≤ l
whole_seats true l = omega arith
whole_seats false l = omega arith

one_seat : (sheet : Bool) (l : ℕ) → seat_width sheet ≤ l → 1 ≤ l / seat_width sheet
one_seat true l h = omega arith
one_seat false l h = omega arith

has_one_seat : (sheet : Bool) (l : ℕ) → 1 ≤ l / seat_width sheet → seat_width sheet ≤ l
has_one_seat true l h = omega arith
has_one_seat false l h = omega arith

-- S seats take no more words than there are, so a seat that the table has has all of its words there
pub seats_within : (sheet : Bool) (l : List ℕ) (n w : ℕ) → n ≡ seat_count_of sheet l → w ≡ seat_width sheet → w * n ≤ length l
unfolding seat_count_of
seats_within sheet l n w e d = rw (e, d) (whole_seats sheet (length l))

pub seat_count_is : (sheet : Bool) (l : List ℕ) (w : ℕ) → w ≡ seat_width sheet → length l / w ≡ seat_count_of sheet l
unfolding seat_count_of
seat_count_is sheet l w e = rw e

pub seat_in : (sheet : Bool) (l : List ℕ) (s f p : ℕ) → p ≡ seat_width sheet * s + f → s < seat_count_of sheet l → f < seat_width sheet → p < length l
seat_in sheet l s f p e h i = let b = seat_within sheet s (seat_count_of sheet l) h in let w = seats_within sheet l (seat_count_of sheet l) (seat_width sheet) refl refl in omega arith

-- ---- the words of a seat, one after the other
pub clear_none : (sheet : Bool) (l : List ℕ) (s : ℕ) → l ≡ clear_words sheet 0 l s
unfolding clear_words
clear_none sheet l s = refl

pub clear_more : (sheet : Bool) (l m m' : List ℕ) (s f : ℕ) → m' ≡ put_seat sheet m s f 0 → m ≡ clear_words sheet f l s → m' ≡ clear_words sheet (f + 1) l s
unfolding clear_words
clear_more sheet l m m' s f p q = rw (add-one f, ← q) p

pub clear_all : (sheet : Bool) (l m : List ℕ) (s f w : ℕ) → m ≡ clear_words sheet f l s → w ≤ f → f ≤ w → w ≡ seat_width sheet → m ≡ clear_words sheet (seat_width sheet) l s
clear_all sheet l m s f w p h i k = let e : f ≡ seat_width sheet = omega arith in rw e at p

-- ---- lengths: N nodes take no more words than there are
pub nodes_within : (sheet : Bool) (l : List ℕ) (n : ℕ) → n ≡ node_count_of sheet l → node_width * n ≤ length l
unfolding node_count_of
nodes_within sheet l n e = omega arith

-- a seat that the table has, and a word that a seat has
module _ (sheet : Bool) (l : List ℕ) (s f n w : ℕ) (is_count : n ≡ seat_count_of sheet l) (is_width : w ≡ seat_width sheet) (has : (ltb s n && ltb f w) ≡ true) where
  pub seat_there : s < seat_count_of sheet l
  seat_there = rw (← is_count) (ltb-true s n (and_left (ltb s n) (ltb f w) has))

  pub field_there : f < seat_width sheet
  field_there = rw (← is_width) (ltb-true f w (and_right (ltb s n) (ltb f w) has))

  pub place_there : (p : ℕ) → p ≡ seat_width sheet * s + f → p < length l
  place_there p e = seat_in sheet l s f p e seat_there field_there

pub nodes_fit_is : (sheet : Bool) (l : List ℕ) (b n : ℕ) → b ≡ before_nodes sheet → n ≡ node_count_of sheet l
    → (eqb (length l) (b + node_width * n) && leb 1 n && leb n 256) ≡ nodes_fit (tables sheet l [])
unfolding nodes_fit
nodes_fit_is sheet l b n d e = rw (d, e)

some_seats : (sheet : Bool) (l : List ℕ) → leb (seat_width sheet) (length l) ≡ leb 1 (seat_count_of sheet l)
unfolding seat_count_of
some_seats sheet l =
    same (leb (seat_width sheet) (length l)) (leb 1 (seat_count_of sheet l))
    (λ p. le-leb 1 (seat_count_of sheet l) (one_seat sheet (length l) (leb-true (seat_width sheet) (length l) p)))
    (λ p. le-leb (seat_width sheet) (length l) (has_one_seat sheet (length l) (leb-true 1 (seat_count_of sheet l) p)))

pub seats_fit_is : (sheet : Bool) (l : List ℕ) (w n : ℕ) → w ≡ seat_width sheet → n ≡ seat_count_of sheet l
    → (eqb (length l) (w * n) && leb w (length l) && leb n 64) ≡ seats_fit (tables sheet [] l)
unfolding seats_fit
seats_fit_is sheet l w n d e = rw (d, e, some_seats sheet l)
