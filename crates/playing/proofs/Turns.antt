-- The calls, one after another: what is still to be played, on the tables and the page so far, gives the whole.
use Prim.Native.Nat.{ℕ, ◌+◌, ◌<◌, ◌≤◌}
use native.Mathlib.Numerals.{add-one}
use mathlib.Core.List.{List, ◌∷◌, ◌++◌, map}
use mathlib.Core.Path.{◌≡◌, refl, ap}
use lib.ListN.{length, get_or, drop, drop_of_length-le}
use lib.Seq.{drop-cons}
use borrow.Author.Tests.{ne_eqb}
use Rattle.rules.specs.Comparison.{claim}
use Rattle.rules.specs.Calls.{reserve, enter, step, release}
use Rattle.rules.specs.Answers.{Answer, Done, done}
use Rattle.rules.specs.Tables.{Tables}
use Rattle.rules.specs.Script.{no_line}
use Rattle.rules.specs.Play.{Call, call, call_of, trace, after_all, turn_text, turns_text}
use Rattle.rules.specs.declared.Line.{Line}
use Rattle.text.specs.Page.{Page as Printed, page_of, puts, Prints}
use Rattle.text.specs.declared.Page.{Page}
use Rattle.text.specs.Lines.{answer_line}
use Rattle.text.proofs.Pages.{puts_append}

-- ---- the call of a line: one law for each way through make_call
module _ (line : Line) (t : Tables) (d : Done Answer) where
  pub call_reserves : line.code ≡ 1 → d ≡ reserve t line.seat (claim line.start line.end line.kind) → d ≡ call t (call_of line)
  unfolding call call_of
  call_reserves h e = rw h e

  pub call_steps : line.code ≡ 2 → d ≡ step t line.seat → d ≡ call t (call_of line)
  unfolding call call_of
  call_steps h e = rw h e

  pub call_releases : line.code ≡ 3 → d ≡ release t line.seat → d ≡ call t (call_of line)
  unfolding call call_of
  call_releases h e = rw h e

  pub call_enters : (line.code ≡ 1 → ⊥) → (line.code ≡ 2 → ⊥) → (line.code ≡ 3 → ⊥) → d ≡ enter t line.seat → d ≡ call t (call_of line)
  unfolding call call_of
  call_enters g h i e = rw (ne_eqb line.code 1 g, ne_eqb line.code 2 h, ne_eqb line.code 3 i) e

-- ---- the calls still to be made, and their lines
calls_more : (lines : List Line) (i : ℕ) → i < length lines → map call_of (drop i lines) ≡ call_of (get_or lines i no_line) ∷ map call_of (drop (i + 1) lines)
calls_more lines i h = rw (add-one i, drop-cons lines i no_line h)

turns_more : (number : ℕ) (t : Tables) (c : Call) (calls : List Call) → turns_text number (trace t (c ∷ calls)) ≡ answer_line number (call t c).answer ++ turns_text (number + 1) (trace (call t c).after calls)
unfolding trace turns_text turn_text answer_line
turns_more number t c calls = refl

module _ (lines : List Line) (i : ℕ) (t : Tables) where
  module _ (after : Tables) (answer : Answer) (line : Line) (made : done answer after ≡ call t (call_of line)) (there : line ≡ get_or lines i no_line) (h : i < length lines) where
    pub made_again : (end : Tables) → after_all t (map call_of (drop i lines)) ≡ end → after_all after (map call_of (drop (i + 1) lines)) ≡ end
    unfolding after_all
    made_again end e = rw (ap (λ (d : Done Answer). d.after) made) (rw (calls_more lines i h, ← there) at e)

    pub told_again : (whole : Printed) (p q : Page) → Prints p q (answer_line (i + 1) answer)
        → puts (page_of p) (turns_text (i + 1) (trace t (map call_of (drop i lines)))) ≡ whole
        → puts (page_of q) (turns_text (i + 1 + 1) (trace after (map call_of (drop (i + 1) lines)))) ≡ whole
    told_again whole p q e rest =
        rw (e.is_printed, ← puts_append, ap (λ (d : Done Answer). d.after) made, ap (λ (d : Done Answer). d.answer) made)
        (rw (calls_more lines i h, ← there, turns_more) at rest)

  module _ (h : length lines ≤ i) where
    pub made_all : (end : Tables) → after_all t (map call_of (drop i lines)) ≡ end → t ≡ end
    unfolding after_all
    made_all end e = rw (drop_of_length-le lines {i = i} h) at e

    pub told_all : (whole p : Printed) → puts p (turns_text (i + 1) (trace t (map call_of (drop i lines)))) ≡ whole → p ≡ whole
    unfolding trace turns_text puts
    told_all whole p e = rw (drop_of_length-le lines {i = i} h) at e

-- what the check finds by itself
pub ruleset ways = (call_reserves, call_steps, call_releases, call_enters)
