-- An answer as one number: what kind of answer in the upper 32 bits, its number in the lower. The promises speak of the two halves, so
-- that no two answers are one number, however large theirs are; of a wait, together with its shared run, which crosses in two words of its own. A
-- refusal is its own number.
use Rattle.std.specs.Prelude.{ℕ, zero, suc, ◌+◌, ◌*◌, ◌/◌, ◌%◌, List, [], ◌∷◌, get_or, set, if◌then◌else◌}
use Rattle.rules.specs.Notation.{◌is◌}
use Rattle.rules.specs.Tables.{Tables}
use Rattle.rules.specs.Answers.{Answer, node, out, on, wait, held, back, refused, Done, done}
use Rattle.rules.specs.FreeCount.{Counted}
use Rattle.rules.specs.Board.{Boarded, Shown}
use Rattle.rules.specs.Script.{no_line}
use Rattle.rules.specs.Run.{Ran}
use Rattle.rules.specs.declared.Line.{Line}
use Rattle.rules.specs.Script.{Script}

pub record Halves : Type 0 where
  pub upper : ℕ
  pub lower : ℕ

abbrev pub halves : ℕ → ℕ → Halves
halves upper lower = record { upper = upper; lower = lower }

-- the upper 32 bits of a number, and the lower
unfoldable pub halves_of : ℕ → Halves
halves_of number = halves (number / 4294967296) (number % 4294967296)

abbrev pub encode : Answer → Halves
encode (refused number) = halves 0 number
encode (node n) = halves 1 n
encode out = halves 2 0
encode on = halves 3 0
encode (wait n first end) = halves 4 n
encode held = halves 5 0
encode back = halves 6 0

abbrev pub encode_count : Counted → Halves
encode_count (Counted.refused number) = halves 0 number
encode_count (Counted.counted n) = halves 1 n

-- the refusal above, the steps below
abbrev pub encode_ran : Ran → Halves
encode_ran ran = halves ran.refusal ran.steps

abbrev pub encoded : Done Answer → Done Halves
encoded d = done (encode d.answer) d.after

abbrev pub encoded_run : Done Ran → Done Halves
encoded_run d = done (encode_ran d.answer) d.after

-- ---- step: a number, the two words for the shared run, and the tables. On a wait the words become the first shared frame and the end of the shared run; on
-- every other answer, a refusal too, they stay as found
pub record StepTold : Type 0 where
  pub number : Halves
  pub shared : List ℕ
  pub after : Tables

abbrev pub step_told : Halves → List ℕ → Tables → StepTold
step_told number shared after = record { number = number; shared = shared; after = after }

abbrev pub shared_after : List ℕ → Answer → List ℕ
shared_after lent (wait n first end) = first ∷ end ∷ []
shared_after lent (refused number) = lent
shared_after lent (node n) = lent
shared_after lent out = lent
shared_after lent on = lent
shared_after lent held = lent
shared_after lent back = lent

abbrev pub tell_step : List ℕ → Done Answer → StepTold
tell_step lent d = step_told (encode d.answer) (shared_after lent d.answer) d.after

-- ---- the board: a number, the word for the covered frames, and the rows. A refusal leaves that word as found
pub record Told : Type 0 where
  pub number : Halves
  pub covered : ℕ
  pub board : List ℕ

abbrev pub told : Halves → ℕ → List ℕ → Told
told number covered board = record { number = number; covered = covered; board = board }

unfoldable pub tell_answer : ℕ → Boarded → List ℕ → Told
tell_answer covered (Boarded.filled count frames) board = told (halves 1 count) frames board
tell_answer covered (Boarded.refused number) board = told (halves 0 number) covered board

abbrev pub tell : ℕ → Shown ℕ → Told
tell covered shown = tell_answer covered shown.answer shown.board

-- ---- script reading: N, S, K and the title's frame count, then for each of the 1,000 rows its code and four numbers; or the refusal above and the
-- line below, the numbers as found
pub record ReadAs : Type 0 where
  pub number : Halves
  pub numbers : List ℕ

abbrev pub read_as : Halves → List ℕ → ReadAs
read_as number numbers = record { number = number; numbers = numbers }

unfoldable pub put_line : List ℕ → ℕ → Line → List ℕ
put_line l at line = set (set (set (set (set l at line.code) (at + 1) line.seat) (at + 2) line.start) (at + 3) line.end) (at + 4) line.kind

-- the numbers of line 1
unfoldable pub put_top_line : List ℕ → ℕ → ℕ → ℕ → ℕ → List ℕ
put_top_line l n s k title = set (set (set (set l 0 n) 1 s) 2 k) 3 title

-- where row r stands, behind them
abbrev pub row_at : ℕ → ℕ
row_at r = 4 + 5 * r

-- the first n rows
unfoldable pub lines_after : ℕ → List ℕ → List Line → List ℕ
lines_after zero l rows = l
lines_after (suc n) l rows = put_line (lines_after n l rows) (row_at n) (get_or rows n no_line)

unfoldable pub script_numbers : Script → List ℕ → List ℕ
script_numbers script lent = lines_after 1000 (put_top_line lent script.n script.s script.k script.title) script.rows

unfoldable pub encode_script : Script → List ℕ → ReadAs
encode_script script lent =
    if script.refusal is 0 then read_as (halves 0 0) (script_numbers script lent)
    else read_as (halves script.refusal script.wrong) lent
