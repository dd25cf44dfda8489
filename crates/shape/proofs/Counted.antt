-- The pass over the seats: those below a bound are sound, and the two counts say how many of them hold with a reader's claim and with a
-- writer's. One law for each way through a turn, and one for each way out.
use Rattle.std.specs.Prelude.{if◌then◌else◌}
use Rattle.std.proofs.Common.{◌≡◌, ℕ, ◌+◌, ◌<◌, ◌≤◌, Bool, true, false, not, ◌&&◌, eqb, ◌≢◌, List, sym, refl, ◌∙◌, add-one, arith, ne_eqb, eqb-true}
use borrow.Author.Tests.{not-true, not-false}
use Rattle.rules.specs.Notation.{◌is◌, all, count}
use Rattle.rules.specs.Tables.{Tables, tables, node_word, seat_word, node_count_of, seat_count_of, kind_at, phase_at, own_at, phase, kind, own}
use Rattle.rules.specs.Shape.{seat_sound, holds_with, holders_of_kind, seats_sound}
use Rattle.rules.proofs.Ground.Logic.{all_fails}
use Rattle.rules.proofs.Laws.Shape.{name_small, seat_is_sound}
use Rattle.shape.specs.Parts.{held_kind, seats_and_counts_sound}

pub is_holder : (sheet : Bool) (t : List ℕ) (s p : ℕ) → p ≡ seat_word sheet t s phase_at → eqb p 5 ≡ (seat_word sheet t s phase_at is 5)
is_holder sheet t s p e = rw e

-- ---- a holder of sound shape has a node of its own, whose kind is read
module _ (sheet : Bool) (l t : List ℕ) (s : ℕ) (b : Bool) (is_holder_here : b ≡ (seat_word sheet t s phase_at is 5)) where
  pub holder_none : b ≡ false → 0 ≡ held_kind (tables sheet l t) s
  holder_none e = rw (sym is_holder_here ∙ e)

  module _ (holds : b ≡ true) (o : ℕ) (is_own : o ≡ seat_word sheet t s own_at) where
    pub holder_some : seat_sound (tables sheet l t) s ≡ true → o ≢ 0
    holder_some e z =
        let h = eqb-true (seat_word sheet t s phase_at) 5 (sym is_holder_here ∙ holds) in
        (seat_is_sound (tables sheet l t) s e).owning (λ q. omega arith) (sym is_own ∙ z)

    pub holder_in : seat_sound (tables sheet l t) s ≡ true → o ≤ node_count_of sheet l
    holder_in e = rw is_own (name_small (tables sheet l t) (seat_word sheet t s own_at) (seat_is_sound (tables sheet l t) s e).own_names)

    pub holder_kind : (k : ℕ) → k ≡ node_word sheet l o kind_at → k ≡ held_kind (tables sheet l t) s
    holder_kind k e = rw (sym is_holder_here ∙ holds, ← is_own) e

-- after the test of a seat
pub seat_fits : (sheet : Bool) (l t : List ℕ) (s : ℕ) (b : Bool) → b ≡ seat_sound (tables sheet l t) s → not b ≡ false → seat_sound (tables sheet l t) s ≡ true
seat_fits sheet l t s b p e = sym p ∙ not-false b e

-- ---- the seats below a bound
pub record Counted (sheet : Bool) (l t : List ℕ) (s readers writers : ℕ) : Type 0 where
  pub below : all s (seat_sound (tables sheet l t)) ≡ true
  pub reading : readers ≡ count s (holds_with (tables sheet l t) 1)
  pub writing : writers ≡ count s (holds_with (tables sheet l t) 2)

pub counted_none : (sheet : Bool) (l t : List ℕ) → Counted sheet l t 0 0 0
unfolding all count
counted_none sheet l t = record { below = refl; reading = refl; writing = refl }

-- a kind that is not 0 is held or not
held_is : (t : Tables) (s k : ℕ) → k ≢ 0 → holds_with t k s ≡ (held_kind t s is k)
held_is t s k d = held (phase t s is 5)
  where
    held : (b : Bool) → (b && kind t (own t s) is k) ≡ ((if b then kind t (own t s) else 0) is k)
    held true = refl
    held false = sym (ne_eqb 0 k (λ e. d (sym e)))

module _ (sheet : Bool) (l t : List ℕ) (s readers writers : ℕ) where
  module _ (k : ℕ) (is_held : k ≡ held_kind (tables sheet l t) s) (b : Bool) (is_seat_here : b ≡ seat_sound (tables sheet l t) s) (fits : not b ≡ false) (w : Counted sheet l t s readers writers) where
    more : (u v : ℕ) → u ≡ readers + (if k is 1 then 1 else 0) → v ≡ writers + (if k is 2 then 1 else 0) → Counted sheet l t (s + 1) u v
    unfolding all count
    more u v p q = record {
      below = rw (add-one s, w.below, ← is_seat_here) (not-false b fits);
      reading = rw (add-one s, held_is (tables sheet l t) s 1 (λ z. omega arith), ← is_held, ← w.reading) p;
      writing = rw (add-one s, held_is (tables sheet l t) s 2 (λ z. omega arith), ← is_held, ← w.writing) q;
    }

    pub counted_reader : k ≡ 1 → Counted sheet l t (s + 1) (readers + 1) writers
    counted_reader e = more (readers + 1) writers (rw e) (rw e (omega arith))

    pub counted_writer : k ≡ 2 → Counted sheet l t (s + 1) readers (writers + 1)
    counted_writer e = more readers (writers + 1) (rw e (omega arith)) (rw e)

    pub counted_other : k ≢ 1 → k ≢ 2 → Counted sheet l t (s + 1) readers writers
    counted_other d e = more readers writers (rw (ne_eqb k 1 d) (omega arith)) (rw (ne_eqb k 2 e) (omega arith))

-- ---- the ways out
pub seat_fails : (sheet : Bool) (l t : List ℕ) (n s x y : ℕ) (b : Bool) → b ≡ seat_sound (tables sheet l t) s → not b ≡ true → s < n → n ≡ seat_count_of sheet t → false ≡ seats_and_counts_sound (tables sheet l t) x y
unfolding seats_sound
seat_fails sheet l t n s x y b p q h e = rw (all_fails (seat_count_of sheet t) s (seat_sound (tables sheet l t)) (rw e at h) (sym p ∙ not-true b q))

pub all_counted : (sheet : Bool) (l t : List ℕ) (n s readers writers x y : ℕ) → Counted sheet l t s readers writers → n ≤ s → s ≤ n → n ≡ seat_count_of sheet t → (eqb x readers && eqb y writers) ≡ seats_and_counts_sound (tables sheet l t) x y
unfolding seats_sound holders_of_kind
all_counted sheet l t n s readers writers x y w h i e =
    let z : s ≡ seat_count_of sheet t = omega arith in
    rw (← z, w.below, w.reading, w.writing)
