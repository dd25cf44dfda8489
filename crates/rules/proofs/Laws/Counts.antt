-- The two counts in sound tables, reached or not: each word is at most 64, and that of a holder's kind at least 1, so that one more and one
-- less are always numbers of 32 bits; together they are the rows of the board.
use Prim.Native.Nat.{ℕ, zero, suc, ◌+◌, ◌≤◌, ◌<◌}
use mathlib.Core.Path.{◌≡◌, refl, sym, ◌∙◌}
use mathlib.Core.Bool.{true, false, ◌||◌}
use mathlib.Core.List.{[], ◌∷◌}
use mathlib.Core.Logic.{◌≢◌, inl, inr}
use native.Mathlib.Omega.{arith}
use lib.ListN.{length, length-append}
use borrow.Author.Tests.{eq-eqb, eqb-true}
use Rattle.rules.specs.Notation.{◌is◌, count}
use Rattle.rules.specs.Tables.{Tables, top_word, readers, writers, count_at, count_word, seat_count, phase}
use Rattle.rules.specs.Shape.{holds_with, holders_of_kind, sound}
use Rattle.rules.specs.Steps.{kind_of}
use Rattle.rules.specs.Board.{row_of, rows_below, holders}
use Rattle.rules.specs.HowMany.{CountsRight}
use Rattle.rules.proofs.Ground.Logic.{branch, and_right, not_of}
use Rattle.rules.proofs.Ground.Deciding.{if_true}
use Rattle.rules.proofs.Ground.Counting.{count_none, count_in, count_out, count_alike, count_small, count_some, count_apart}
use Rattle.rules.proofs.Laws.Shape.{IsKind, Counts, is_sound}

-- ---- as the door says it
pub as_right : {t : Tables} → Counts t → CountsRight t
as_right c = record { of_readers = c 1 (inl refl); of_writers = c 2 (inr refl) }

pub from_right : {t : Tables} → CountsRight t → Counts t
from_right w k (inl p) = rw p w.of_readers
from_right w k (inr p) = rw p w.of_writers

pub sound_right : (t : Tables) → sound t ≡ true → CountsRight t
sound_right t e = as_right (is_sound t e).counts

pub wrong_damaged : (t : Tables) → (CountsRight t → ⊥) → sound t ≡ false
wrong_damaged t w = not_of (sound t) (λ e. w (sound_right t e))

-- ---- the two kinds are counted apart
pub kinds_apart : {k j : ℕ} → IsKind k → IsKind j → k ≢ j → count_at k ≢ count_at j
kinds_apart (inl p) (inl q) d = absurd (d (p ∙ sym q))
kinds_apart (inl p) (inr q) d = rw (p, q) (omega arith)
kinds_apart (inr p) (inl q) d = rw (p, q) (omega arith)
kinds_apart (inr p) (inr q) d = absurd (d (p ∙ sym q))

module _ (t : Tables) (e : sound t ≡ true) where
  -- who has a claim has one of a kind
  pub own_kind : (s : ℕ) → phase t s ≢ 0 → IsKind (kind_of t s)
  own_kind s b = let w = (is_sound t e).seat s in elim w.own_names [ inl z ↦ absurd (w.owning b z) | inr q ↦ q.1.0 ]

  few_holders : (k : ℕ) → holders_of_kind t k ≤ 64
  unfolding holders_of_kind
  few_holders k = let n = (is_sound t e).few_seats in let h = count_small (seat_count t) (holds_with t k) in omega arith

  pub count_few : (k : ℕ) → count_word t k ≤ 64
  count_few k =
      branch (λ (i : ℕ). top_word t.nodes i ≤ 64) (k is 1)
      (λ z. rw ((is_sound t e).counts 1 (inl refl)) (few_holders 1))
      (λ z. rw ((is_sound t e).counts 2 (inr refl)) (few_holders 2))

  pub holder_counts : (s : ℕ) → s < seat_count t → phase t s ≡ 5 → 1 ≤ count_word t (kind_of t s)
  unfolding holders_of_kind
  holder_counts s l h =
      rw ((is_sound t e).counts (kind_of t s) (own_kind s (omega arith)))
      (count_some (seat_count t) s (holds_with t (kind_of t s)) l (rw (h, eq-eqb (kind_of t s) (kind_of t s) refl)))

-- ---- the board has a row for each of them
rows_counted : (t : Tables) (n : ℕ) → length (rows_below n t) ≡ count n (λ s. phase t s is 5)
unfolding rows_below
rows_counted t zero = sym (count_none (λ s. phase t s is 5))
rows_counted t (suc n) =
    let h = rows_counted t n in
    if_true (phase t n is 5)
    (λ e. rw e (let l = length-append (rows_below n t) (row_of t n ∷ []) in let c = count_in n (λ s. phase t s is 5) e in omega arith))
    (λ e. rw e (h ∙ sym (count_out n (λ s. phase t s is 5) e)))

module _ (t : Tables) (e : sound t ≡ true) where
  of_one_kind : (s : ℕ) → phase t s is 5 ≡ (holds_with t 1 s || holds_with t 2 s)
  of_one_kind s =
      if_true (phase t s is 5)
      (λ h. elim (own_kind t e s (λ z. let p = eqb-true (phase t s) 5 h in omega arith)) [ inl k ↦ rw (h, k) | inr k ↦ rw (h, k) ])
      (λ h. rw h)

  not_of_both : (s : ℕ) → holds_with t 1 s ≡ true → holds_with t 2 s ≡ true → ⊥
  not_of_both s r w =
      let reads = eqb-true (kind_of t s) 1 (and_right (phase t s is 5) (kind_of t s is 1) r) in
      let writes = eqb-true (kind_of t s) 2 (and_right (phase t s is 5) (kind_of t s is 2) w) in
      omega arith

  pub all_holders : readers t + writers t ≡ length (holders t)
  unfolding holders holders_of_kind
  all_holders =
      let n = seat_count t in
      rw ((is_sound t e).counts 1 (inl refl), (is_sound t e).counts 2 (inr refl), rows_counted t n)
      (sym (count_alike n (λ s. phase t s is 5) (λ s. holds_with t 1 s || holds_with t 2 s) (λ s l. of_one_kind s)
      ∙ count_apart n (holds_with t 1) (holds_with t 2) not_of_both))

  pub at_most_64 : readers t + writers t ≤ 64
  unfolding holders
  at_most_64 =
      rw (all_holders, rows_counted t (seat_count t))
      (let n = (is_sound t e).few_seats in let h = count_small (seat_count t) (λ s. phase t s is 5) in omega arith)
