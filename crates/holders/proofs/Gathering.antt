-- The holders' runs, gathered seat by seat: they are no more than the seats passed, and cover what the rows of these cover.
use Prim.Native.Nat.{ℕ, ◌+◌, ◌≤◌}
use native.Mathlib.Omega.{arith}
use mathlib.Core.Bool.{Bool, true, false}
use mathlib.Core.List.{List, []}
use mathlib.Core.Path.{◌≡◌, refl, sym, ap, ◌∙◌}
use lib.ListN.{length}
use Rattle.rules.specs.Notation.{◌is◌}
use Rattle.rules.specs.Tables.{Tables, seat_count, phase}
use Rattle.rules.specs.Board.{row_of, rows_below, holders, some_covers, covered_by}
use Rattle.rules.specs.declared.Row.{Row}
use Rattle.rules.proofs.Laws.Covered.{some_last, covered_alike}
use Rattle.covering.specs.Runs.{CoversOneMore}
use Rattle.holders.proofs.Rows.{rows_more, rows_same, rows_all}

pub record Gathered (t : Tables) (runs : List Row) (s : ℕ) : Type 0 where
  pub one_each : length runs ≤ s
  pub alike : (frame : ℕ) → some_covers runs frame ≡ some_covers (rows_below s t) frame

pub gathered_none : (t : Tables) → Gathered t [] 0
unfolding rows_below
gathered_none t = record { one_each = omega arith; alike = λ frame. refl }

module _ (t : Tables) (runs : List Row) (s : ℕ) (g : Gathered t runs s) where
  module _ (b : Bool) (is_held : b ≡ (phase t s is 5)) where
    pub gathered_more : b ≡ true → (row : Row) → row ≡ row_of t s → (runs' : List Row) → length runs' ≡ length runs + 1
        → CoversOneMore runs row.first row.end runs' → Gathered t runs' (s + 1)
    gathered_more e row is_row runs' more covers_it = record {
      one_each = let o = g.one_each in omega arith;
      alike = λ frame.
          (rw is_row at covers_it) frame
          ∙ rw (g.alike frame) (sym (some_last (rows_below s t) (row_of t s) frame))
          ∙ ap (λ (rows : List Row). some_covers rows frame) (sym (rows_more t s b is_held e));
    }

    pub gathered_same : b ≡ false → Gathered t runs (s + 1)
    gathered_same e = record {
      one_each = let o = g.one_each in omega arith;
      alike = λ frame. g.alike frame ∙ ap (λ (rows : List Row). some_covers rows frame) (sym (rows_same t s b is_held e));
    }

  pub gathered_all : (r : ℕ) → r ≡ covered_by runs → (n : ℕ) → n ≡ seat_count t → s ≤ n → n ≤ s → r ≡ covered_by (holders t)
  gathered_all r e n is_count h i =
      e ∙ covered_alike runs (rows_below s t) g.alike ∙ ap covered_by (rows_all t s n is_count h i)
