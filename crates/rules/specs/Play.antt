-- Playing a script, and every byte that is printed.
use Rattle.std.specs.Prelude.{ℕ, zero, suc, ◌+◌, ◌/◌, ◌%◌, List, [], ◌∷◌, ◌++◌, map, true, false, take, if◌then◌else◌}
use Prim.Native.Char.{code}
use Prim.Native.String.{String, [] as []ˢ, ◌∷◌ as ◌∷ˢ◌}
use Rattle.rules.specs.Notation.{◌is◌, ◌<?◌}
use Rattle.rules.specs.Tables.{Tables, fresh}
use Rattle.rules.specs.Comparison.{Claim, claim}
use Rattle.rules.specs.Answers.{Answer, node, out, on, wait, held, back, refused, Done}
use Rattle.rules.specs.Calls.{reserve, enter, step, release}
use Rattle.rules.specs.Reach.{list_of}
use Rattle.rules.specs.Board.{holders, covered_by}
use Rattle.rules.specs.Script.{read_script}
use Rattle.rules.specs.declared.Row.{Row}
use Rattle.rules.specs.declared.Line.{Line}
use Rattle.rules.specs.Script.{Script}

-- ---- the calls that a script makes
pub data Call : Type 0 where
  reserve_call : ℕ → Claim → Call
  enter_call : ℕ → Call
  step_call : ℕ → Call
  release_call : ℕ → Call

unfoldable pub call : Tables → Call → Done Answer
call t (reserve_call s c) = reserve t s c
call t (enter_call s) = enter t s
call t (step_call s) = step t s
call t (release_call s) = release t s

abbrev pub seat_of : Call → ℕ
seat_of (reserve_call s c) = s
seat_of (enter_call s) = s
seat_of (step_call s) = s
seat_of (release_call s) = s

unfoldable pub call_of : Line → Call
call_of l =
    if l.code is 1 then reserve_call l.seat (claim l.start l.end l.kind)
    else if l.code is 2 then step_call l.seat
    else if l.code is 3 then release_call l.seat
    else enter_call l.seat

unfoldable pub calls_of : Script → List Call
calls_of script = map call_of (take script.k script.rows)

-- ---- a played script: each call with the tables before it and what it did
pub record Turn : Type 0 where
  pub before : Tables
  pub made : Call
  pub did : Done Answer

abbrev pub turn : Tables → Call → Turn
turn t c = record { before = t; made = c; did = call t c }

unfoldable pub trace : Tables → List Call → List Turn
trace t [] = []
trace t (c ∷ calls) = turn t c ∷ trace (call t c).after calls

unfoldable pub after_all : Tables → List Call → Tables
after_all t [] = t
after_all t (c ∷ calls) = after_all (call t c).after calls

-- ---- text
abbrev pub ascii : String → List ℕ
ascii []ˢ = []
ascii (c ∷ˢ s) = code c ∷ ascii s

-- the digits of n, the most significant first; n hops are enough
unfoldable pub digits : ℕ → ℕ → List ℕ
digits zero n = (48 + n % 10) ∷ []
digits (suc hops) n = elim (n <? 10) [ true ↦ (48 + n % 10) ∷ [] | false ↦ digits hops (n / 10) ++ ((48 + n % 10) ∷ []) ]

unfoldable pub decimal : ℕ → List ℕ
decimal n = digits n n

-- ---- "Each call prints its number and its answer (`no k` if refused; the rest still run)"; 02 (v): `wait 4 15 20`
unfoldable pub answer_text : Answer → List ℕ
answer_text (node n) = ascii "node " ++ decimal n
answer_text out = ascii "out"
answer_text on = ascii "on"
answer_text (wait n first end) = ascii "wait " ++ decimal n ++ ascii " " ++ decimal first ++ ascii " " ++ decimal end
answer_text held = ascii "held"
answer_text back = ascii "back"
answer_text (refused number) = ascii "no " ++ decimal number

unfoldable pub turn_text : ℕ → Turn → List ℕ
turn_text number turn = decimal number ++ ascii " " ++ answer_text turn.did.answer ++ ascii "\n"

unfoldable pub turns_text : ℕ → List Turn → List ℕ
turns_text number [] = []
turns_text number (turn ∷ turns) = turn_text number turn ++ turns_text (number + 1) turns

-- ---- "then `list` and the listed node numbers, marked ones too (`list` alone if there are none)"
unfoldable pub numbers_text : List ℕ → List ℕ
numbers_text [] = []
numbers_text (n ∷ rest) = ascii " " ++ decimal n ++ numbers_text rest

unfoldable pub list_text : Tables → List ℕ
list_text t = ascii "list" ++ numbers_text (list_of t) ++ ascii "\n"

-- ---- "then `hold seat start end kind` per row; then `covered n`."
unfoldable pub row_text : Row → List ℕ
row_text row =
    ascii "hold " ++ decimal row.seat ++ ascii " " ++ decimal row.first ++ ascii " " ++ decimal row.end
    ++ ascii " " ++ decimal row.kind ++ ascii "\n"

unfoldable pub rows_text : List Row → List ℕ
rows_text [] = []
rows_text (row ∷ rows) = row_text row ++ rows_text rows

unfoldable pub covered_text : Tables → List ℕ
covered_text t = ascii "covered " ++ decimal (covered_by (holders t)) ++ ascii "\n"

unfoldable pub end_text : Tables → List ℕ
end_text t = list_text t ++ rows_text (holders t) ++ covered_text t

-- ---- "A bad script prints `bad L` .. Otherwise tables start fresh."
unfoldable pub start_of : Script → Tables
start_of script = fresh false script.n script.s script.title

unfoldable pub script_text : Script → List ℕ
script_text script = turns_text 1 (trace (start_of script) (calls_of script)) ++ end_text (after_all (start_of script) (calls_of script))

unfoldable pub play : List ℕ → List ℕ
play src =
    if (read_script src).refusal is 0 then script_text (read_script src)
    else ascii "bad " ++ decimal (read_script src).wrong ++ ascii "\n"
