-- An answer as numbers, and the answer that they stand for.
use Rattle.std.specs.Prelude.{ℕ, Option, Some, None, Result, Ok, Err, if◌then◌else◌}
use Rattle.rules.specs.Notation.{◌is◌}
use Rattle.rules.specs.Answers.{Answer, node, out, on, wait, held, back, refused}
use Rattle.rules.specs.Means.{number_of}
use Rattle.rules.specs.declared.Refused.{Refused}
use Rattle.rules.specs.declared.Reply.{Reply}
use Rattle.rules.specs.declared.Reply.TheVariants.{Node, Out, On, Wait, Held, Back}
use Rattle.rules.specs.declared.SharedRun.{SharedRun}
use Rattle.replies.specs.declared.Said.{Said}

abbrev pub said : ℕ → ℕ → Option SharedRun → Said
said code number run = record { code = code; number = number; run = run }

-- with no run
abbrev pub said_plainly : ℕ → ℕ → Said
said_plainly code number = said code number None

-- of an answer, its refusal by any number
abbrev pub said_by : Result Reply ℕ → Said
said_by (Err number) = said_plainly 0 number
said_by (Ok (Node n)) = said_plainly 1 n
said_by (Ok Out) = said_plainly 2 0
said_by (Ok On) = said_plainly 3 0
said_by (Ok (Wait n first end)) = said 4 n (Some (record { first = first; end = end }))
said_by (Ok Held) = said_plainly 5 0
said_by (Ok Back) = said_plainly 6 0

-- the refusals of 01 and 02, each by its number
abbrev pub by_number : Result Reply Refused → Result Reply ℕ
by_number (Err why) = Err (number_of why)
by_number (Ok reply) = Ok reply

abbrev pub said_of : Result Reply Refused → Said
said_of reply = said_by (by_number reply)

-- a wait at n, of a run; 0 where there is none
abbrev pub wait_of : ℕ → Option SharedRun → Answer
wait_of n (Some run) = wait n run.first run.end
wait_of n None = wait n 0 0

unfoldable pub answer_by : Said → Answer
answer_by s =
    if s.code is 1 then node s.number
    else if s.code is 2 then out
    else if s.code is 3 then on
    else if s.code is 4 then wait_of s.number s.run
    else if s.code is 5 then held
    else if s.code is 6 then back
    else refused s.number
