-- Request (viii) of 02: a catalogue of writers only. What is so of a writers' sheet and not of the ordinary tables: its kinds and phases, that its holders
-- share no frame at all, that a linked claim holds, that a step is never refused 8, and how soon a claim settles. Demands 1, 2 and 3 and all else at the
-- door are of both profiles. Nothing else stands here: the words are those of specs/Sheets.antt, and each proof is a citation.
use Prim.Native.Nat.{ℕ, ◌+◌, ◌*◌, ◌≤◌}
use mathlib.Core.Path.{◌≡◌}
use mathlib.Core.Bool.{true}
use mathlib.Core.List.{List}
use mathlib.Core.Logic.{◌≢◌}
use native.Mathlib.Omega.{arith}
use lib.ListN.{replicate}
use Rattle.rules.specs.Tables.{Tables, readers, kind, phase}
use Rattle.rules.specs.Shape.{sound}
use Rattle.rules.specs.Reach.{list_of}
use Rattle.rules.specs.Answers.{wait, back, refused}
use Rattle.rules.specs.Calls.{clear, step}
use Rattle.rules.specs.Run.{refusal_of, ran, run}
use Rattle.rules.specs.Board.{holders, covered_by}
use Rattle.rules.specs.Play.{Call, call}
use Rattle.rules.specs.Reached.{Request, after_requests, Reached}
use Rattle.rules.specs.Apart.{Covers, claim_of_seat, Holds, LinkedIn, Stands}
use Rattle.rules.specs.Cause.{step_times}
use Rattle.rules.specs.Covered.{added_up}
use Rattle.rules.specs.Sheets.{OnSheet, SheetPhase, SheetKind, OneAfterTheOther, HolderOf, WaitsAtHolder, SheetSettled, SheetTold}
use Rattle.rules.proofs.Soundness.SoundReached.{reached_sound}
use Rattle.rules.proofs.Soundness.SoundSheets as sound_sheets
use Rattle.rules.proofs.Holding.SheetsApart as holding
use Rattle.rules.proofs.Waiting.SheetsAlone as waiting

-- ---- a sheet stays a sheet: no call changes the profile of any tables
pub call_keeps_profile : (t : Tables) (c : Call) → (call t c).after.sheet ≡ t.sheet
call_keeps_profile = holding.call_profile

pub requests_keep_profile : (t : Tables) (requests : List Request) → (after_requests t requests).sheet ≡ t.sheet
requests_keep_profile = holding.requests_profile

pub clear_keeps_profile : (t : Tables) (frames : ℕ) → (clear t frames).after.sheet ≡ t.sheet
clear_keeps_profile = holding.clear_profile

-- ---- "sound shape allowing phases 0, 1, 2, 5 and 7 and kind 2 only", of every sound sheet, and so of every one that is reached
pub phases : (t : Tables) → sound t ≡ true → OnSheet t → (s : ℕ) → SheetPhase (phase t s)
phases = sound_sheets.sheet_phase

pub kinds : (t : Tables) → sound t ≡ true → OnSheet t → (a : ℕ) → SheetKind (kind t a)
kinds = sound_sheets.sheet_kind

pub no_readers : (t : Tables) → sound t ≡ true → OnSheet t → readers t ≡ 0
no_readers = sound_sheets.no_readers

pub always_in_these_phases : {N S : ℕ} {t : Tables} → Reached N S t → OnSheet t → (s : ℕ) → SheetPhase (phase t s)
always_in_these_phases {t = t} r = phases t (reached_sound r)

pub always_of_these_kinds : {N S : ℕ} {t : Tables} → Reached N S t → OnSheet t → (a : ℕ) → SheetKind (kind t a)
always_of_these_kinds {t = t} r = kinds t (reached_sound r)

-- ---- exclusion: two seats that hold share no frame
pub apart : {N S : ℕ} {t : Tables} → Reached N S t → OnSheet t → (i j frame : ℕ) → i ≢ j → Holds t i → Holds t j
    → Covers (claim_of_seat t i) frame → Covers (claim_of_seat t j) frame → ⊥
apart = holding.sheet_apart

-- 000's Invariant 1: of two neighbours on the list, marked ones too, the first ends before the second starts
pub one_after_the_other : {N S : ℕ} {t : Tables} → Reached N S t → OnSheet t → OneAfterTheOther t (list_of t)
one_after_the_other = holding.one_after_the_other

-- so the frames that are covered are the sum of what each holder has
pub covered_is_the_sum : {N S : ℕ} {t : Tables} → Reached N S t → OnSheet t → covered_by (holders t) ≡ added_up (holders t)
covered_is_the_sum = holding.sheet_sum

-- ---- "a claim holds as soon as it is linked": whoever is linked in holds, and every node that stands on the list is a holder's
pub linked_holds : {N S : ℕ} {t : Tables} → Reached N S t → OnSheet t → (s : ℕ) → LinkedIn t s → Holds t s
linked_holds = holding.linked_holds

pub stands_for_a_holder : {N S : ℕ} {t : Tables} → Reached N S t → OnSheet t → (a : ℕ) → Stands t a → HolderOf t a
stands_for_a_holder = holding.stands_for_holder

-- ---- "a step is never refused 8", whatever the tables are; and so it is with a run
pub step_never_8 : (t : Tables) (s : ℕ) → OnSheet t → (step t s).answer ≢ refused 8
step_never_8 = waiting.step_never_8

pub run_never_8 : (t : Tables) (schedule : List ℕ) (budget : ℕ) → OnSheet t → (run t schedule budget).answer.refusal ≢ 8
run_never_8 = waiting.run_never_8

-- and nobody is sent back
pub step_never_back : {N S : ℕ} {t : Tables} → Reached N S t → OnSheet t → (s : ℕ) → (step t s).answer ≢ back
step_never_back = waiting.step_never_back

-- ---- whoever waits waits at a holder
pub every_wait_is_at_a_holder : {N S : ℕ} {t : Tables} → Reached N S t → OnSheet t → (s n first end : ℕ) → (step t s).answer ≡ wait n first end
    → WaitsAtHolder (step t s).after s n first end
every_wait_is_at_a_holder = waiting.wait_at_holder

-- ---- "a solo bound of 4·N + 8 steps from phase 1, 2 or 7": from any phase but 0, they end in holding or in waiting with cause
pub sheet_settles : {N S : ℕ} {t : Tables} → Reached N S t → OnSheet t → (s : ℕ) → phase t s ≢ 0 → SheetSettled (step_times (4 * N + 8) t s) s
sheet_settles {N} r q s d = waiting.sheet_settled r q s d (4 * N + 8) (omega arith)

-- the last of them tells the worker so
pub last_step_tells : {N S : ℕ} {t : Tables} → Reached N S t → OnSheet t → (s : ℕ) → phase t s ≢ 0
    → SheetTold s (step (step_times (4 * N + 7) t s) s).answer (step (step_times (4 * N + 7) t s) s).after
last_step_tells {N} r q s d = waiting.sheet_tells r q s d (4 * N + 7) (omega arith)

-- each of them, and any after them, is accepted
pub steps_accepted : {N S : ℕ} {t : Tables} → Reached N S t → OnSheet t → (s : ℕ) → phase t s ≢ 0
    → (k : ℕ) → refusal_of (step (step_times k t s) s).answer ≡ 0
steps_accepted = waiting.sheet_accepted

-- so it is with a run of that many entries of the seat and a budget as large, which takes them all
pub run_settles : {N S : ℕ} {t : Tables} → Reached N S t → OnSheet t → (s : ℕ) → phase t s ≢ 0 → (budget : ℕ) → 4 * N + 8 ≤ budget
    → SheetSettled (run t (replicate (4 * N + 8) s) budget).after s
run_settles {N} r q s d budget h = waiting.sheet_settled_by_run r q s d (4 * N + 8) (omega arith) budget h

pub solo_run_ends : {N S : ℕ} {t : Tables} → Reached N S t → OnSheet t → (s : ℕ) → phase t s ≢ 0 → (k budget : ℕ) → k ≤ budget
    → (run t (replicate k s) budget).answer ≡ ran k 0
solo_run_ends = waiting.sheet_run_ends

-- half as many steps are enough, and any number from there on
pub fewer_steps_settle : {N S : ℕ} {t : Tables} → Reached N S t → OnSheet t → (s : ℕ) → phase t s ≢ 0 → (k : ℕ) → 2 * N + 3 ≤ k
    → SheetSettled (step_times k t s) s
fewer_steps_settle = waiting.sheet_settled
