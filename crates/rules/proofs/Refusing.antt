-- Demand 1: every call refuses exactly what and where documents 01 and 02 say, and a refused call changes nothing that it was lent. Of any tables, any
-- lists and any numbers. Nothing else stands here: the words are those of specs/Refusing.antt, and each proof is a citation.
use Prim.Native.Nat.{ℕ, ◌/◌}
use mathlib.Core.Path.{◌≡◌, ap}
use mathlib.Core.List.{List}
use mathlib.Core.Logic.{◌≢◌}
use lib.IntN.{ℤ}
use lib.ListN.{length}
use Rattle.rules.specs.Tables.{Tables}
use Rattle.rules.specs.Answers.{Answer, refused, Done, done}
use Rattle.rules.specs.Calls.{clear}
use Rattle.rules.specs.FreeCount.{Counted, free_count}
use Rattle.rules.specs.Run.{ran, run}
use Rattle.rules.specs.Board.{Boarded, shown, board, row_width, board_numbers}
use Rattle.rules.specs.Script.{bad_at, read_script}
use Rattle.rules.specs.Play.{Call, call}
use Rattle.rules.specs.Locks.{import_lock, export_claim, record_width, locks_in, lock_numbers, claims_in, claim_numbers, listed, moved, import_locks, export_claims}
use Rattle.rules.specs.Refusing.{Refuses, ClearRefuses, DamageRefuses, BoardRefuses, ScriptRefuses, LockRefuses, ClaimRefuses, RecordsRefuse}
use Rattle.rules.specs.declared.Row.{Row}
use Rattle.rules.proofs.Laws.RunSteps.{damaged_run_refused}
use Rattle.rules.proofs.Laws.ScriptRefused.{script_by_table, script_refused}
use Rattle.rules.proofs.Laws.Records as records
use Rattle.rules.proofs.Laws.LocksRefused.{lock_only, lock_there, claim_only, claim_there}
use Rattle.rules.proofs.Rules.Accepting.{refusal_tells}
use Rattle.rules.proofs.Rules.RefusedExactly as exact

-- ---- reserve, enter, step and release are refused only as the table says
pub refused_only : (t : Tables) (c : Call) (k : ℕ) → (call t c).answer ≡ refused k → Refuses t c k
refused_only = exact.call_by_table

-- and wherever it says so, with both tables as found
pub refused_there : (t : Tables) (c : Call) (k : ℕ) → Refuses t c k → call t c ≡ done (refused k) t
refused_there = exact.table_refused

pub refused_changes_nothing : (t : Tables) (c : Call) (k : ℕ) → (call t c).answer ≡ refused k → (call t c).after ≡ t
refused_changes_nothing t c k q = ap (λ (d : Done Answer). d.after) (refused_there t c k (refused_only t c k q))

-- a refusal always has a number, so that 0 is never one: "the refusal met or 0" of a run tells which
pub refused_by_number : (t : Tables) (c : Call) (k : ℕ) → (call t c).answer ≡ refused k → k ≢ 0
refused_by_number t c k q = (refusal_tells (refused_only t c k q)).not_0

-- ---- clear: what is not 0 is its refusal
pub clear_only : (t : Tables) (frames k : ℕ) → (clear t frames).answer ≡ k → k ≢ 0 → ClearRefuses t frames k
clear_only = exact.clear_by_table

pub clear_there : (t : Tables) (frames k : ℕ) → ClearRefuses t frames k → clear t frames ≡ done k t
clear_there = exact.clear_refused

-- ---- run as a whole, "0 steps, refusal 1"; how any other run ends is said in Apart
pub run_there : (t : Tables) (schedule : List ℕ) (budget k : ℕ) → DamageRefuses t k → run t schedule budget ≡ done (ran 0 k) t
run_there = damaged_run_refused

-- ---- free count
pub count_only : (t : Tables) (k : ℕ) → free_count t ≡ Counted.refused k → DamageRefuses t k
count_only = exact.count_by_table

pub count_there : (t : Tables) (k : ℕ) → DamageRefuses t k → free_count t ≡ Counted.refused k
count_there = exact.count_refused

-- ---- the board on rows, and on numbers, four to a row: the lent list stays
pub board_only : (t : Tables) (lent : List Row) (k : ℕ) → (board t lent).answer ≡ Boarded.refused k → BoardRefuses t (length lent) k
board_only = exact.board_by_table

pub board_there : (t : Tables) (lent : List Row) (k : ℕ) → BoardRefuses t (length lent) k → board t lent ≡ shown (Boarded.refused k) lent
board_there = exact.board_refused

pub numbers_only : (t : Tables) (lent : List ℕ) (k : ℕ) → (board_numbers t lent).answer ≡ Boarded.refused k → BoardRefuses t (length lent / row_width) k
numbers_only = exact.numbers_by_table

pub numbers_there : (t : Tables) (lent : List ℕ) (k : ℕ) → BoardRefuses t (length lent / row_width) k → board_numbers t lent ≡ shown (Boarded.refused k) lent
numbers_there = exact.numbers_refused

-- ---- script reading: a refusal is 10, with the first wrong line, and then nothing else is told
pub script_only : (src : List ℕ) → (read_script src).refusal ≢ 0 → ((read_script src).refusal ≡ 10) × ScriptRefuses src (read_script src).wrong
script_only = script_by_table

pub script_there : (src : List ℕ) (wrong : ℕ) → ScriptRefuses src wrong → read_script src ≡ bad_at wrong
script_there = script_refused

-- ---- import and export, over lists as they are lent, with the place: what is not 0 is a refusal, and the output list stays
pub import_only : (frames : ℕ) (locks : List ℤ) (lent : List ℕ) (k place : ℕ) → (import_locks frames locks lent).answer ≡ moved k place → k ≢ 0
    → RecordsRefuse (LockRefuses frames) frames (locks_in locks) (length lent / record_width) k place
unfolding import_locks
import_only frames locks lent = records.refused_only (import_lock frames) (LockRefuses frames) (lock_only frames) (lock_there frames) claim_numbers frames (locks_in locks) lent

pub import_there : (frames : ℕ) (locks : List ℤ) (lent : List ℕ) (k place : ℕ) → RecordsRefuse (LockRefuses frames) frames (locks_in locks) (length lent / record_width) k place
    → import_locks frames locks lent ≡ listed (moved k place) lent
unfolding import_locks
import_there frames locks lent = records.refused_there (import_lock frames) (LockRefuses frames) (lock_only frames) (lock_there frames) claim_numbers frames (locks_in locks) lent

pub export_only : (frames : ℕ) (claims : List ℕ) (lent : List ℤ) (k place : ℕ) → (export_claims frames claims lent).answer ≡ moved k place → k ≢ 0
    → RecordsRefuse (ClaimRefuses frames) frames (claims_in claims) (length lent / record_width) k place
unfolding export_claims
export_only frames claims lent = records.refused_only (export_claim frames) (ClaimRefuses frames) (claim_only frames) (claim_there frames) lock_numbers frames (claims_in claims) lent

pub export_there : (frames : ℕ) (claims : List ℕ) (lent : List ℤ) (k place : ℕ) → RecordsRefuse (ClaimRefuses frames) frames (claims_in claims) (length lent / record_width) k place
    → export_claims frames claims lent ≡ listed (moved k place) lent
unfolding export_claims
export_there frames claims lent = records.refused_there (export_claim frames) (ClaimRefuses frames) (claim_only frames) (claim_there frames) lock_numbers frames (claims_in claims) lent
