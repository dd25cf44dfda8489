-- A step without its answer, and what is left of it once the tables and the seat's number are tested.
use Rattle.std.specs.Prelude.{ℕ, [], ◌∷◌}
use Rattle.rules.specs.Notation.{◌is◌}
use Rattle.rules.specs.Tables.{Tables, phase}
use Rattle.rules.specs.Answers.{Answer, refused, Done, done, ◌when◌, refusing}
use Rattle.rules.specs.Steps.{step_by_phase}
use Rattle.rules.specs.Run.{refusal_of}

-- the refusal, or 0, and the tables: all that a run asks of its steps
abbrev pub unanswered : Done Answer → Done ℕ
unanswered d = done (refusal_of d.answer) d.after

-- of step, past 2
abbrev pub step_busy : Tables → ℕ → Done Answer
step_busy t s = refusing refused ((6 when phase t s is 0) ∷ []) t (step_by_phase t s)
