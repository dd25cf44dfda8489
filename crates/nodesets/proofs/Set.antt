-- Laws of a set of nodes as four words, and a rule for each way through the code.
use Prim.Native.Nat.{ℕ, zero, suc, ◌+◌, ◌-◌, ◌*◌, ◌/◌, ◌%◌, ◌≤◌, ◌<◌}
use mathlib.Core.Path.{◌≡◌, refl, sym, ap, ◌∙◌}
use mathlib.Core.Bool.{Bool, true, false, ◌&&◌, ◌||◌, not, or_comm}
use mathlib.Core.List.{List, [], ◌∷◌}
use mathlib.Core.Logic.{◌≢◌, ⊎_elim}
use native.Mathlib.Omega.{arith}
use native.Mathlib.Numerals.{add-one}
use lib.ListN.{get_or, set, length, length-set}
use lib.Seq.{get_or-set_same, get_or-set_other, set-get_or}
use lib.Count.{ones, count_trailing_zeros}
use Rattle.std.specs.Prelude.{Some, None, sum_by}
use borrow.Author.Tests.{eq-eqb, ne_eqb, eqb-true, eqb-false, ltb-true, ltb-false}
use Rattle.rules.specs.Notation.{◌is◌, ◌<?◌, count, lowest}
use Rattle.rules.proofs.Ground.Logic.{either, same, not_of}
use Rattle.rules.proofs.Ground.Counting.{count_none, count_split, count_alike, count_small, lowest_at, lowest_none}
use Rattle.nodesets.specs.Word.{in_word, add_word}
use Rattle.rules.specs.Means.{node_if_any}
use Rattle.nodesets.specs.Set.{has, none, add, members}
use Rattle.nodesets.proofs.Word.{in_zero, in_add, add_in, add_again as word_again, ones_count, trailing_in, trailing_below}

-- ---- a node by its word and its number there
pub has_at : (ws : List ℕ) (i j : ℕ) → j < 64 → has ws (64 * i + j + 1) ≡ in_word (get_or ws i 0) j
unfolding has
has_at ws i j h =
    let a : (64 * i + j) / 64 ≡ i = omega arith in
    let b : (64 * i + j) % 64 ≡ j = omega arith in
    rw (add-one (64 * i + j), a, b)

pub has_word : (ws : List ℕ) (m : ℕ) → has ws (m + 1) ≡ in_word (get_or ws (m / 64) 0) (m % 64)
unfolding has
has_word ws m = rw (add-one m)

pub has_zero : (ws : List ℕ) → has ws 0 ≡ false
unfolding has
has_zero ws = refl

-- ---- the empty set
none_words : (i : ℕ) → get_or none i 0 ≡ 0
unfolding none
none_words zero = refl
none_words (suc zero) = refl
none_words (suc (suc zero)) = refl
none_words (suc (suc (suc zero))) = refl
none_words (suc (suc (suc (suc i)))) = refl

pub has_none : (a : ℕ) → has none a ≡ false
unfolding has
has_none zero = refl
has_none (suc m) = rw (none_words (m / 64), in_zero (m % 64))

pub none_length : length none ≡ 4
unfolding none
none_length = refl

-- ---- a set and one node more
pub add_length : (ws : List ℕ) (a : ℕ) → length (add ws a) ≡ length ws
unfolding add
add_length ws zero = refl
add_length ws (suc m) = simp length-set

module _ (ws : List ℕ) (m k : ℕ) where
  add_in_its_word : m / 64 < length ws → k / 64 ≡ m / 64 → has (add ws (suc m)) (suc k) ≡ (has ws (suc k) || k % 64 is m % 64)
  unfolding has add
  add_in_its_word h e = rw (e, get_or-set_same ws (m / 64) (add_word (get_or ws (m / 64) 0) (m % 64)) 0 h) (in_add (get_or ws (m / 64) 0) (m % 64) (k % 64))

  add_in_another : k / 64 ≢ m / 64 → has (add ws (suc m)) (suc k) ≡ has ws (suc k)
  unfolding has add
  add_in_another d = rw (get_or-set_other ws (m / 64) (k / 64) (add_word (get_or ws (m / 64) 0) (m % 64)) 0 d)

pub has_add : (ws : List ℕ) (a x : ℕ) → length ws ≡ 4 → a ≢ 0 → a ≤ 256 → has (add ws a) x ≡ (a is x || has ws x)
has_add ws zero x l z h = absurd (z refl)
has_add ws (suc m) zero l z h = has_zero (add ws (suc m)) ∙ rw (ne_eqb (suc m) 0 z, has_zero ws)
has_add ws (suc m) (suc k) l z h =
    ⊎_elim
    (λ e. let q : k / 64 ≡ m / 64 = eqb-true (k / 64) (m / 64) e in
    let r : (k % 64 is m % 64) ≡ (suc m is suc k) =
    same (k % 64 is m % 64) (suc m is suc k)
    (λ y. let p = eqb-true (k % 64) (m % 64) y in eq-eqb (suc m) (suc k) (omega arith))
    (λ y. let p = eqb-true (suc m) (suc k) y in eq-eqb (k % 64) (m % 64) (omega arith)) in
    add_in_its_word ws m k (omega arith) q ∙ or_comm (has ws (suc k)) (k % 64 is m % 64) ∙ ap (λ (b : Bool). b || has ws (suc k)) r)
    (λ e. let q : k / 64 ≢ m / 64 = eqb-false (k / 64) (m / 64) e in add_in_another ws m k q ∙ rw (ne_eqb (suc m) (suc k) (λ y. q (omega arith))))
    (either (k / 64 is m / 64))

-- ---- by the place that the code works out
has_node : (ws : List ℕ) (a : ℕ) → a ≢ 0 → has ws a ≡ in_word (get_or ws ((a - 1) / 64) 0) ((a - 1) % 64)
unfolding has
has_node ws zero z = absurd (z refl)
has_node ws (suc m) z = let e : suc m - 1 ≡ m = omega arith in rw e

add_node : (ws : List ℕ) (a : ℕ) → a ≢ 0 → add ws a ≡ set ws ((a - 1) / 64) (add_word (get_or ws ((a - 1) / 64) 0) ((a - 1) % 64))
unfolding add
add_node ws zero z = absurd (z refl)
add_node ws (suc m) z = let e : suc m - 1 ≡ m = omega arith in rw e

-- a node that is in the set changes nothing
pub add_again : (ws : List ℕ) (a : ℕ) → has ws a ≡ true → add ws a ≡ ws
unfolding has add
add_again ws zero e = refl
add_again ws (suc m) e = rw (word_again (get_or ws (m / 64) 0) (m % 64) e) (set-get_or ws (m / 64) 0)

-- ---- the code's calls, as a rule for each way through it
module _ (ws : List ℕ) (a w : ℕ) where
  pub join_found : w ≡ add_word (get_or ws ((a - 1) / 64) 0) ((a - 1) % 64) → a ≢ 0 → w ≡ get_or ws ((a - 1) / 64) 0 → (true ≡ has ws a) × (ws ≡ add ws a)
  join_found p z e =
      let i : has ws a ≡ true = has_node ws a z ∙ ap (λ (v : ℕ). in_word v ((a - 1) % 64)) (sym e ∙ p) ∙ add_in (get_or ws ((a - 1) / 64) 0) ((a - 1) % 64) in
      (sym i, sym (add_again ws a i))

  pub join_new : w ≡ add_word (get_or ws ((a - 1) / 64) 0) ((a - 1) % 64) → a ≢ 0 → w ≢ get_or ws ((a - 1) / 64) 0 → (false ≡ has ws a) × (set ws ((a - 1) / 64) w ≡ add ws a)
  join_new p z d =
      let o : has ws a ≡ false = not_of (has ws a) (λ i. d (p ∙ word_again (get_or ws ((a - 1) / 64) 0) ((a - 1) % 64) (sym (has_node ws a z) ∙ i))) in
      (sym o, ap (set ws ((a - 1) / 64)) p ∙ sym (add_node ws a z))

-- ---- outside: the words below i are done
unfoldable pub OutsideTo : List ℕ → ℕ → List ℕ → ℕ → Type 0
OutsideTo ws n rest i = (k j : ℕ) → k < i → j < 64 → in_word (get_or rest k 0) j ≡ (64 * k + j <? n && not (in_word (get_or ws k 0) j))

pub outside_start : (ws rest : List ℕ) (n : ℕ) → OutsideTo ws n rest 0
unfolding OutsideTo
outside_start ws rest n k j h = absurd (omega arith)

pub outside_more : (ws rest : List ℕ) (n i w : ℕ) → OutsideTo ws n rest i → length rest ≡ 4 → i < 4
    → ((j : ℕ) → j < 64 → in_word w j ≡ (64 * i + j <? n && not (in_word (get_or ws i 0) j)))
    → OutsideTo ws n (set rest i w) (i + 1)
unfolding OutsideTo
outside_more ws rest n i w f l t g k j h b =
    ⊎_elim
    (λ e. let q : k ≡ i = eqb-true k i e in rw (q, get_or-set_same rest i w 0 (omega arith)) (g j b))
    (λ e. let q : k ≢ i = eqb-false k i e in rw (get_or-set_other rest i k w 0 q) (f k j (omega arith) b))
    (either (k is i))

pub outside_done : (ws rest : List ℕ) (n i : ℕ) → OutsideTo ws n rest i → 4 ≤ i → (m : ℕ) → m < 256 → has rest (m + 1) ≡ (m <? n && not (has ws (m + 1)))
unfolding OutsideTo
outside_done ws rest n i f h m b =
    let e : 64 * (m / 64) + m % 64 ≡ m = omega arith in
    rw (has_word rest m, has_word ws m) (rw e at (f (m / 64) (m % 64) (omega arith) (omega arith)))

-- ---- count
pub members_none : (ws : List ℕ) → members ws 0 ≡ 0
unfolding members
members_none ws = count_none (λ m. has ws (m + 1))

pub count_more : (ws : List ℕ) (i total c : ℕ) → total ≡ members ws (64 * i) → c ≡ count 64 (in_word (get_or ws i 0)) → total + c ≡ members ws (64 * (i + 1))
unfolding members
count_more ws i total c p q =
    let e : 64 * (i + 1) ≡ 64 * i + 64 = omega arith in
    rw (e, p, q)
    (sym (count_split (64 * i) 64 (λ m. has ws (m + 1))
    ∙ ap (λ (n : ℕ). count (64 * i) (λ m. has ws (m + 1)) + n) (count_alike 64 (λ j. has ws (64 * i + j + 1)) (in_word (get_or ws i 0)) (has_at ws i))))

pub count_done : (ws : List ℕ) (i total : ℕ) → total ≡ members ws (64 * i) → i ≤ 4 → 4 ≤ i → total ≡ members ws 256
count_done ws i total p h b = let e : i ≡ 4 = omega arith in rw e at p

-- the ones of the four words are the nodes of the set
pub members_ones : (ws : List ℕ) → length ws ≡ 4 → ((i : ℕ) → get_or ws i 0 < 18446744073709551616) → sum_by ones ws ≡ members ws 256
members_ones (a ∷ b ∷ c ∷ d ∷ []) l fits = more 3 _ (more 2 _ (more 1 _ (more 0 0 (sym (members_none _)))))
  where
    ws : List ℕ
    ws = a ∷ b ∷ c ∷ d ∷ []

    more : (i total : ℕ) → total ≡ members ws (64 * i) → total + ones (get_or ws i 0) ≡ members ws (64 * (i + 1))
    more i total e = count_more ws i total (ones (get_or ws i 0)) e (ones_count 64 (get_or ws i 0) (fits i))
members_ones [] l fits = absurd (omega arith)
members_ones (a ∷ []) l fits = absurd (omega arith)
members_ones (a ∷ b ∷ []) l fits = absurd (omega arith)
members_ones (a ∷ b ∷ c ∷ []) l fits = absurd (omega arith)
members_ones (a ∷ b ∷ c ∷ d ∷ e ∷ ws) l fits = absurd (omega arith)

pub members_few : (ws : List ℕ) → members ws 256 ≤ 256
unfolding members
members_few ws = count_small 256 (λ m. has ws (m + 1))

-- ---- lowest: no node in the words below i
unfoldable pub Clear : List ℕ → ℕ → Type 0
Clear ws i = (m : ℕ) → m < 64 * i → has ws (m + 1) ≡ false

pub clear_start : (ws : List ℕ) → Clear ws 0
unfolding Clear
clear_start ws m h = absurd (omega arith)

-- the lowest of word i, where its numbers below j are not in it
clear_word : (ws : List ℕ) (i j m : ℕ) → Clear ws i → ((k : ℕ) → k < j → in_word (get_or ws i 0) k ≡ false) → j ≤ 64 → m < 64 * i + j → has ws (m + 1) ≡ false
unfolding Clear
clear_word ws i j m c f b h =
    ⊎_elim
    (λ e. c m (ltb-true m (64 * i) e))
    (λ e. let q : 64 * i ≤ m = ltb-false m (64 * i) e in
    let d : m / 64 ≡ i = omega arith in
    has_word ws m ∙ rw d (f (m % 64) (omega arith)))
    (either (m <? 64 * i))

pub clear_more : (ws : List ℕ) (i w : ℕ) → Clear ws i → w ≡ get_or ws i 0 → w ≡ 0 → Clear ws (i + 1)
unfolding Clear
clear_more ws i w c p e m h = clear_word ws i 64 m c (λ k b. rw (sym p ∙ e) (in_zero k)) (omega arith) (omega arith)

node_named : (n m : ℕ) → suc m ≡ n → Some (suc m) ≡ node_if_any n
unfolding node_if_any
node_named n m e = rw (← e)

module _ (ws : List ℕ) (i : ℕ) (c : Clear ws i) where
  pub lowest_found : (w : ℕ) → w ≡ get_or ws i 0 → w ≢ 0 → w < 18446744073709551616 → i < 4
      → Some (64 * i + count_trailing_zeros 64 w + 1) ≡ node_if_any (lowest 256 (has ws))
  lowest_found w p z fits h = rw (add-one (64 * i + j)) (node_named (lowest 256 (has ws)) (64 * i + j) (sym is_lowest))
    where
      j : ℕ
      j = count_trailing_zeros 64 w

      there : (j < 64) × (in_word w j ≡ true)
      there = trailing_in 64 w z fits

      is_lowest : lowest 256 (has ws) ≡ suc (64 * i + j)
      is_lowest =
          let b = there.0 in
          lowest_at 256 (64 * i + j) (has ws) (omega arith)
          (rw (add-one (64 * i + j), ← p) at (has_at ws i j b) ∙ there.1)
          (λ m l. rw (add-one m) at (clear_word ws i j m c (λ k s. rw (← p) (trailing_below 64 w k s)) (omega arith) l))

  pub lowest_clear : 4 ≤ i → None ≡ node_if_any (lowest 256 (has ws))
  unfolding Clear node_if_any
  lowest_clear h = let e = lowest_none 256 (has ws) (λ m b. rw (add-one m) at (c m (omega arith))) in rw e
