-- What a caller reads in the number that a call returns: from its upper half what kind of answer, from its lower the answer's number. No
-- promise cites these; that they read back what was encoded is proved in proofs/Told.antt.
use Rattle.std.specs.Prelude.{ℕ, zero, suc, ◌+◌, List, [], ◌∷◌, ◌++◌, get_or, Some, if◌then◌else◌}
use Rattle.rules.specs.Notation.{◌is◌}
use Rattle.rules.specs.Answers.{Answer}
use Rattle.rules.specs.FreeCount.{Counted}
use Rattle.rules.specs.Run.{ran}
use Rattle.rules.specs.Board.{Boarded}
use Rattle.rules.specs.Script.{line, bad_at}
use Rattle.rules.specs.Run.{Ran}
use Rattle.rules.specs.declared.Line.{Line}
use Rattle.rules.specs.Script.{Script}
use Rattle.replies.specs.Codes.{said, said_plainly, answer_by}
use Rattle.boundary.specs.Encoded.{Halves, row_at}

-- reserve, enter and release, which never answer `wait`
abbrev pub decode : Halves → Answer
decode h = answer_by (said_plainly h.upper h.lower)

-- step, with the two words for the shared run
abbrev pub decode_step : Halves → List ℕ → Answer
decode_step h shared = answer_by (said h.upper h.lower (Some (record { first = get_or shared 0 0; end = get_or shared 1 0 })))

abbrev pub decode_count : Halves → Counted
decode_count h =
    if h.upper is 0 then Counted.refused h.lower
    else Counted.counted h.lower

abbrev pub decode_ran : Halves → Ran
decode_ran h = ran h.lower h.upper

-- with the word for the covered frames
abbrev pub decode_board : Halves → ℕ → Boarded
decode_board h covered =
    if h.upper is 0 then Boarded.refused h.lower
    else Boarded.filled h.lower covered

-- ---- script reading, with the 5,004 numbers
unfoldable pub line_at : List ℕ → ℕ → Line
line_at numbers at = line (get_or numbers at 0) (get_or numbers (at + 1) 0) (get_or numbers (at + 2) 0) (get_or numbers (at + 3) 0) (get_or numbers (at + 4) 0)

-- the first n rows
unfoldable pub lines_in : ℕ → List ℕ → List Line
lines_in zero numbers = []
lines_in (suc n) numbers = lines_in n numbers ++ (line_at numbers (row_at n) ∷ [])

unfoldable pub script_in : List ℕ → Script
script_in numbers = record {
  refusal = 0;
  wrong = 0;
  n = get_or numbers 0 0;
  s = get_or numbers 1 0;
  k = get_or numbers 2 0;
  title = get_or numbers 3 0;
  rows = lines_in 1000 numbers;
}

unfoldable pub decode_script : Halves → List ℕ → Script
decode_script h numbers =
    if h.upper is 0 then script_in numbers
    else bad_at h.lower
