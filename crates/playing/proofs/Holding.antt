-- The rows' text, seat by seat.
use Prim.Native.Nat.{ℕ, ◌+◌, ◌≤◌}
use mathlib.Core.Bool.{Bool, true, false}
use mathlib.Core.List.{List, [], ◌∷◌, ◌++◌, append-nil, append_assoc}
use mathlib.Core.Path.{◌≡◌, refl}
use Rattle.rules.specs.Notation.{◌is◌}
use Rattle.rules.specs.Tables.{Tables, seat_count, phase}
use Rattle.rules.specs.Board.{row_of, rows_below, holders}
use Rattle.rules.specs.Play.{row_text, rows_text}
use Rattle.rules.specs.declared.Row.{Row}
use Rattle.holders.specs.Holding.{held_by}
use Rattle.holders.proofs.Rows.{held_none, held_one, rows_again, rows_all}
use Rattle.text.specs.Page.{puts, Prints}
use Rattle.text.specs.declared.Page.{Page}
use Rattle.text.proofs.Pages.{then}

rows_text_append : (rows more : List Row) → rows_text (rows ++ more) ≡ rows_text rows ++ rows_text more
unfolding rows_text
rows_text_append [] more = refl
rows_text_append (x ∷ rows) more = rw (rows_text_append rows more, append_assoc)

-- ---- one law for each way through put_held
module _ (t : Tables) (s : ℕ) (b : Bool) (is_held : b ≡ (phase t s is 5)) (p : Page) where
  pub text_none : b ≡ false → Prints p p (rows_text (held_by t s))
  unfolding rows_text puts
  text_none e = rw (held_none t s b is_held e) (record { same_buffer = refl; is_printed = refl })

  pub text_held : (q : Page) (row : Row) → Prints p q (row_text row) → row ≡ row_of t s → b ≡ true → Prints p q (rows_text (held_by t s))
  unfolding rows_text
  text_held q row e is_row h = rw (held_one t s b is_held h, append-nil, ← is_row) e

-- ---- from seat to seat
pub text_start : (t : Tables) (p : Page) → Prints p p (rows_text (rows_below 0 t))
unfolding rows_below rows_text puts
text_start t p = record { same_buffer = refl; is_printed = refl }

pub text_again : (t : Tables) (s : ℕ) (p q r : Page) → Prints p q (rows_text (rows_below s t)) → Prints q r (rows_text (held_by t s)) → Prints p r (rows_text (rows_below (s + 1) t))
text_again t s p q r e f = rw (rows_again t s, rows_text_append) (then e f)

-- after the last seat
pub text_done : (t : Tables) (p q : Page) (s n : ℕ) → Prints p q (rows_text (rows_below s t)) → n ≡ seat_count t → s ≤ n → n ≤ s → Prints p q (rows_text (holders t))
text_done t p q s n f e h i = rw (← rows_all t s n e h i) f
