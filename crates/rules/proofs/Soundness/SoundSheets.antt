-- What sound shape says of a sheet: which phases and kinds there are, and that nobody reads. Of any sound tables.
use Prim.Native.Nat.{ℕ, ◌≤◌}
use mathlib.Core.Path.{◌≡◌, refl, ◌∙◌}
use mathlib.Core.Bool.{Bool, true, false, ◌&&◌}
use mathlib.Core.Logic.{◌≢◌, inl, inr}
use native.Mathlib.Omega.{arith}
use borrow.Author.Tests.{ne_eqb}
use Rattle.rules.specs.Notation.{◌is◌}
use Rattle.rules.specs.Tables.{Tables, seat_count, readers, kind_at, kind, phase, own}
use Rattle.rules.specs.Shape.{sound, holds_with, holders_of_kind}
use Rattle.rules.specs.Sheets.{OnSheet, SheetPhase, idle, walking, waiting, holding, reserved, SheetKind, none, writes}
use Rattle.rules.proofs.Ground.Deciding.{if_same}
use Rattle.rules.proofs.Ground.Counting.{count_none, count_gap}
use Rattle.rules.proofs.Laws.Words.{node_zero}
use Rattle.rules.proofs.Laws.Shape.{none_left, is_sound}
use Rattle.rules.proofs.Laws.Counts.{sound_right}
use Rattle.rules.proofs.Soundness.SoundShape.{sound_shaped}

-- of the phases up to 7, those that a sheet has
named_phase : (p : ℕ) → p ≤ 7 → p ≢ 3 → p ≢ 4 → p ≢ 6 → SheetPhase p
named_phase p l d₃ d₄ d₆ =
    if_same p 0 idle (λ d₀.
    if_same p 1 walking (λ d₁.
    if_same p 2 waiting (λ d₂.
    if_same p 5 holding (λ d₅.
    if_same p 7 reserved (λ d₇.
    absurd (none_left p l d₀ d₁ d₂ d₃ d₄ d₅ d₆ d₇))))))

and_no : (a : Bool) {b : Bool} → b ≡ false → (a && b) ≡ false
and_no true e = e
and_no false e = refl

module _ (t : Tables) (e : sound t ≡ true) (q : OnSheet t) where
  pub sheet_phase : (s : ℕ) → SheetPhase (phase t s)
  sheet_phase s = let w = ((is_sound t e).seat s).may_be_in_law in let n = w.1 q in named_phase (phase t s) w.0 n.0 n.1 n.2

  pub sheet_kind : (a : ℕ) → SheetKind (kind t a)
  sheet_kind a =
      let w = sound_shaped (is_sound t e) in
      if_same a 0
      (λ z. none (rw (z, node_zero t.sheet t.nodes kind_at)))
      (λ z. elim (w.view.nodes.blank_or_proper a (omega arith)) [
        | inl b ↦ none b.kind_0
        | inr c ↦ elim c.reads_or_writes [ inl k ↦ absurd (w.aside.kinds q a k) | inr k ↦ writes k ]
      ])

  -- so no seat holds to read
  nobody_reads : (s : ℕ) → holds_with t 1 s ≡ false
  nobody_reads s = and_no (phase t s is 5) (ne_eqb (kind t (own t s)) 1 ((sound_shaped (is_sound t e)).aside.kinds q (own t s)))

  pub no_readers : readers t ≡ 0
  unfolding holders_of_kind
  no_readers =
      (sound_right t e).of_readers
      ∙ count_gap 0 (seat_count t) (holds_with t 1) (omega arith) (λ s h l. nobody_reads s) ∙ count_none (holds_with t 1)
