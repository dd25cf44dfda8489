-- "Where an answer is an enum, a definition gives, for each of its cases, this paper's number and values. The promises use that
-- definition."
use Rattle.std.specs.Prelude.{ℕ, zero, suc, Option, Some, None, Result, Ok, Err}
use Rattle.rules.specs.Comparison as comparison
use Rattle.rules.specs.Answers.{Answer, node, out, on, wait, held, back, refused}
use Rattle.rules.specs.FreeCount.{Counted}
use Rattle.rules.specs.Board.{Boarded}
use Rattle.rules.specs.Run as run
use Rattle.rules.specs.Script as script
use Rattle.rules.specs.Locks.{moved}
use Rattle.rules.specs.declared.Refused.{Refused}
use Rattle.rules.specs.declared.Refused.TheVariants.{Damaged, NoSuchSeat, NoFrames, UnknownKind, HasClaim, HasNoClaim, NotHolding, NoNodeFree, NoRoom, NotWellFormed, BeyondTitle, NoSuchRun, UnknownType, NotReserved}
use Rattle.rules.specs.declared.Claim.{Claim}
use Rattle.rules.specs.declared.Reply.{Reply}
use Rattle.rules.specs.declared.Reply.TheVariants.{Node, Out, On, Wait, Held, Back}
use Rattle.rules.specs.declared.Filled.{Filled}
use Rattle.rules.specs.declared.Ran.{Ran}
use Rattle.rules.specs.declared.Script.{Script}
use Rattle.rules.specs.declared.Wrong.{Wrong}
use Rattle.rules.specs.declared.BadRecord.{BadRecord}
use Rattle.rules.specs.declared.Moved.{Moved}

-- the number of a refusal in the tables of 01 and 02
abbrev pub number_of : Refused → ℕ
number_of Damaged = 1
number_of NoSuchSeat = 2
number_of NoFrames = 3
number_of UnknownKind = 4
number_of HasClaim = 5
number_of HasNoClaim = 6
number_of NotHolding = 7
number_of NoNodeFree = 8
number_of NoRoom = 9
number_of NotWellFormed = 10
number_of BeyondTitle = 11
number_of NoSuchRun = 12
number_of UnknownType = 13
number_of NotReserved = 14

-- refused, a call "returns only its number": that stands for the answer of its own that it then has not
abbrev pub means : Result Reply Refused → Answer
means (Ok (Node n)) = node n
means (Ok Out) = out
means (Ok On) = on
means (Ok (Wait n first end)) = wait n first end
means (Ok Held) = held
means (Ok Back) = back
means (Err why) = refused (number_of why)

abbrev pub means_count : Result ℕ Refused → Counted
means_count (Ok n) = Counted.counted n
means_count (Err why) = Counted.refused (number_of why)

abbrev pub means_board : Result Filled Refused → Boarded
means_board (Ok all) = Boarded.filled all.rows all.covered
means_board (Err why) = Boarded.refused (number_of why)

-- "the refusal met or 0"
abbrev pub number_or_0 : Option Refused → ℕ
number_or_0 None = 0
number_or_0 (Some why) = number_of why

abbrev pub means_run : Ran → run.Ran
means_run r = run.ran r.steps (number_or_0 r.refusal)

-- "An accepted call with no other stated answer returns 0"; refused, it returns the number of its refusal
abbrev pub means_done : Result (Unit {0}) Refused → ℕ
means_done (Ok _) = 0
means_done (Err why) = number_of why

-- "Script reading gives N, S, K and 1,000 rows by value", and by 02 (iii) the title's frame count; of a script that is not well formed its number
-- and "also the line"
abbrev pub means_script : Result Script Wrong → script.Script
means_script (Ok read) = record { refusal = 0; wrong = 0; n = read.n; s = read.s; k = read.k; title = read.title; rows = read.rows }
means_script (Err bad) = script.bad_at bad.line

-- the refusal or 0, and the place from 0 of the record that is refused
abbrev pub means_moved : Result (Unit {0}) BadRecord → Moved
means_moved (Ok _) = moved 0 0
means_moved (Err bad) = moved (number_of bad.why) bad.place

-- a claim as the rules have it
abbrev pub means_claim : Claim → comparison.Claim
means_claim c = comparison.claim c.start c.end c.kind

-- "Nodes are numbered 1 to N": where the rules say 0, there is none
unfoldable pub node_if_any : ℕ → Option ℕ
node_if_any zero = None
node_if_any (suc m) = Some (suc m)
