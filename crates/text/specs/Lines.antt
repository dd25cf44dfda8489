-- The line of a call, whatever the turn.
use Rattle.std.specs.Prelude.{ℕ, List, ◌++◌}
use Rattle.rules.specs.Answers.{Answer}
use Rattle.rules.specs.Play.{ascii, decimal, answer_text}

unfoldable pub answer_line : ℕ → Answer → List ℕ
answer_line number answer = decimal number ++ ascii " " ++ answer_text answer ++ ascii "\n"
