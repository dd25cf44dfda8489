-- What is printed after the calls, part by part.
use mathlib.Core.List.{◌++◌}
use mathlib.Core.Path.{◌≡◌}
use Prim.Native.Nat.{ℕ}
use Rattle.rules.specs.Tables.{Tables}
use Rattle.rules.specs.Board.{holders, covered_by}
use Rattle.rules.specs.Play.{ascii, decimal, list_text, rows_text, covered_text, end_text}
use Rattle.text.specs.Page.{Prints}
use Rattle.text.specs.declared.Page.{Page}
use Rattle.text.proofs.Pages.{then}

pub end_is : (t : Tables) (p q r s : Page) (covered : ℕ) → Prints p q (list_text t) → Prints q r (rows_text (holders t)) → Prints r s (ascii "covered " ++ decimal covered ++ ascii "\n") → covered ≡ covered_by (holders t) → Prints p s (end_text t)
unfolding end_text covered_text
end_is t p q r s covered a b d e = then (then a b) (rw e at d)
