-- The list, node by node: what is still to be listed, on the page so far, gives the whole.
use Prim.Native.Nat.{ℕ, zero, suc}
use mathlib.Core.List.{List, ◌++◌}
use mathlib.Core.Path.{◌≡◌, refl}
use mathlib.Core.Bool.{false}
use borrow.Author.Tests.{eq-eqb, ne_eqb}
use Rattle.rules.specs.Tables.{Tables, tables, link, link_word, node_count}
use Rattle.rules.specs.Reach.{nodes_from, list_of}
use Rattle.rules.specs.Play.{ascii, decimal, numbers_text, list_text}
use Rattle.text.specs.Page.{Page, page_of, puts, Prints}
use Rattle.text.specs.declared.Page.{Page as Lent}
use Rattle.text.proofs.Pages.{puts_append, then}

pub listed_again : (t : Tables) (whole : Page) (p q : Lent) (left left' a b : ℕ) → puts (page_of p) (numbers_text (nodes_from left t a)) ≡ whole → Prints p q (ascii " " ++ decimal a) → b ≡ link t a → (a ≡ 0 → ⊥) → left ≡ suc left' → puts (page_of q) (numbers_text (nodes_from left' t b)) ≡ whole
unfolding nodes_from numbers_text
listed_again t whole p q left left' a b rest e f h g = rw (f, e.is_printed, ← puts_append) (rw (g, ne_eqb a 0 h) at rest)

-- none is left
module _ (t : Tables) (whole p : Page) (left a : ℕ) (rest : puts p (numbers_text (nodes_from left t a)) ≡ whole) where
  pub listed_end : a ≡ 0 → p ≡ whole
  unfolding nodes_from numbers_text puts
  listed_end e = go left rest
    where
      go : (left : ℕ) → puts p (numbers_text (nodes_from left t a)) ≡ whole → p ≡ whole
      go zero r = r
      go (suc left) r = rw (eq-eqb a 0 e) at r

  pub listed_all : left ≡ 0 → p ≡ whole
  unfolding nodes_from numbers_text puts
  listed_all e = rw e at rest

-- seats do not matter to the list
nodes_from_nodes : (nodes seats other : List ℕ) (left a : ℕ) → nodes_from left (tables false nodes seats) a ≡ nodes_from left (tables false nodes other) a
unfolding nodes_from
nodes_from_nodes nodes seats other zero a = refl
nodes_from_nodes nodes seats other (suc left) a = rw (nodes_from_nodes nodes seats other left (link_word false nodes a))

pub list_of_nodes : (nodes seats other : List ℕ) → list_text (tables false nodes seats) ≡ list_text (tables false nodes other)
unfolding list_text list_of
list_of_nodes nodes seats other = rw (nodes_from_nodes nodes seats other)

pub list_is : (t : Tables) (p q r s : Lent) (n h : ℕ) → Prints p q (ascii "list") → Prints q r (numbers_text (nodes_from n t h)) → Prints r s (ascii "\n") → n ≡ node_count t → h ≡ link t 0 → Prints p s (list_text t)
unfolding list_text list_of
list_is t p q r s n h a b d i j = then (then a (rw (i, j) at b)) d
