-- Each call's promise settles the number that it returns and every word of what it was lent: two results that meet it on the same
-- arguments are equal. It is the promise itself that is cited, as the checker reads it from the source.
use Prim.Native.Nat.{ℕ}
use mathlib.Core.List.{List}
use mathlib.Core.Path.{◌≡◌, ap}
use mathlib.Core.Bool.{true, false}
use native.Mathlib.Omega.{arith}
use Rattle.rules.specs.Tables.{Tables, tables}
use Rattle.rules.specs.Answers.{Done, done}
use Rattle.rules.proofs.Laws.OneAnswer.{Settles, SettlesAnswer, one_value, one_result, one_list}
use Rattle.playing.proofs.OneAnswer.{one_text}
use Rattle.boundary.specs.Encoded.{Halves, halves_of, StepTold, step_told, Told, told, ReadAs, read_as}
use Rattle.boundary.proofs.soodhiqune_clear.Reads as clear
use Rattle.boundary.proofs.soodhiqune_clear.Kinds as clear_kinds
use Rattle.boundary.proofs.soodhiqune_reserve.Reads as reserve
use Rattle.boundary.proofs.soodhiqune_reserve.Kinds as reserve_kinds
use Rattle.boundary.proofs.soodhiqune_enter.Reads as enter
use Rattle.boundary.proofs.soodhiqune_enter.Kinds as enter_kinds
use Rattle.boundary.proofs.soodhiqune_step.Reads as step
use Rattle.boundary.proofs.soodhiqune_step.Kinds as step_kinds
use Rattle.boundary.proofs.soodhiqune_release.Reads as release
use Rattle.boundary.proofs.soodhiqune_release.Kinds as release_kinds
use Rattle.boundary.proofs.soodhiqune_free_count.Reads as free_count_law
use Rattle.boundary.proofs.soodhiqune_free_count.Kinds as free_count_kinds
use Rattle.boundary.proofs.soodhiqune_run.Reads as run
use Rattle.boundary.proofs.soodhiqune_run.Kinds as run_kinds
use Rattle.boundary.proofs.soodhiqune_board.Reads as board
use Rattle.boundary.proofs.soodhiqune_board.Kinds as board_kinds
use Rattle.boundary.proofs.soodhiqune_sheet_clear.Reads as sheet_clear
use Rattle.boundary.proofs.soodhiqune_sheet_clear.Kinds as sheet_clear_kinds
use Rattle.boundary.proofs.soodhiqune_sheet_reserve.Reads as sheet_reserve
use Rattle.boundary.proofs.soodhiqune_sheet_reserve.Kinds as sheet_reserve_kinds
use Rattle.boundary.proofs.soodhiqune_sheet_enter.Reads as sheet_enter
use Rattle.boundary.proofs.soodhiqune_sheet_enter.Kinds as sheet_enter_kinds
use Rattle.boundary.proofs.soodhiqune_sheet_step.Reads as sheet_step
use Rattle.boundary.proofs.soodhiqune_sheet_step.Kinds as sheet_step_kinds
use Rattle.boundary.proofs.soodhiqune_sheet_release.Reads as sheet_release
use Rattle.boundary.proofs.soodhiqune_sheet_release.Kinds as sheet_release_kinds
use Rattle.boundary.proofs.soodhiqune_sheet_free_count.Reads as sheet_free_count
use Rattle.boundary.proofs.soodhiqune_sheet_free_count.Kinds as sheet_free_count_kinds
use Rattle.boundary.proofs.soodhiqune_sheet_run.Reads as sheet_run
use Rattle.boundary.proofs.soodhiqune_sheet_run.Kinds as sheet_run_kinds
use Rattle.boundary.proofs.soodhiqune_sheet_board.Reads as sheet_board
use Rattle.boundary.proofs.soodhiqune_sheet_board.Kinds as sheet_board_kinds
use Rattle.boundary.proofs.soodhiqune_import.Reads as import_reads
use Rattle.boundary.proofs.soodhiqune_import.Kinds as import_kinds
use Rattle.boundary.proofs.soodhiqune_export.Reads as export_reads
use Rattle.boundary.proofs.soodhiqune_export.Kinds as export_kinds
use Rattle.boundary.proofs.soodhiqune_read.Reads as read
use Rattle.boundary.proofs.soodhiqune_read.Kinds as read_kinds
use Rattle.boundary.proofs.soodhiqune_play.Reads as play
use Rattle.boundary.proofs.soodhiqune_play.Kinds as play_kinds

-- a number is its two halves
same_halves : (a b : ℕ) → halves_of a ≡ halves_of b → a ≡ b
unfolding halves_of
same_halves a b e =
    let u = ap (λ (h : Halves). h.upper) e in
    let l = ap (λ (h : Halves). h.lower) e in
    omega arith

one_number : (promised : Done Halves) (a b : ℕ) (t u : Tables) → done (halves_of a) t ≡ promised → done (halves_of b) u ≡ promised → (a ≡ b) × (t ≡ u)
one_number promised a b t u p q =
    let w = one_result promised (halves_of a) (halves_of b) t u p q in
    (same_halves a b w.0, w.1)

one_step_number : (promised : StepTold) (a b : ℕ) (m n : List ℕ) (t u : Tables) → step_told (halves_of a) m t ≡ promised → step_told (halves_of b) n u ≡ promised
    → (a ≡ b) × ◌≡◌ {A = Tables × List ℕ} (t, m) (u, n)
one_step_number promised a b m n t u p q =
    let e = one_value p q in
    (same_halves a b (ap (λ (x : StepTold). x.number) e), ap (λ (x : StepTold). (x.after, x.shared)) e)

one_board_number : (promised : Told) (a b c d : ℕ) (m n : List ℕ) → told (halves_of a) c m ≡ promised → told (halves_of b) d n ≡ promised → (a ≡ b) × ◌≡◌ {A = List ℕ × ℕ} (m, c) (n, d)
one_board_number promised a b c d m n p q =
    let e = one_value p q in
    (same_halves a b (ap (λ (x : Told). x.number) e), ap (λ (x : Told). (x.board, x.covered)) e)

one_read_number : (promised : ReadAs) (a b : ℕ) (m n : List ℕ) → read_as (halves_of a) m ≡ promised → read_as (halves_of b) n ≡ promised → (a ≡ b) × (m ≡ n)
one_read_number promised a b m n p q =
    let e = one_value p q in
    (same_halves a b (ap (λ (x : ReadAs). x.number) e), ap (λ (x : ReadAs). x.numbers) e)

-- ---- the calls
pub one_clear : Settles clear_kinds.ps clear_kinds.r clear.Post (λ κs s. tables false s.0.now s.1.0.now)
one_clear κs args a b s t = one_result _ a b _ _

pub one_reserve : Settles reserve_kinds.ps reserve_kinds.r reserve.Post (λ κs s. tables false s.0.now s.1.0.now)
one_reserve κs args a b s t = one_number _ a b _ _

-- enter is lent the nodes to read only
pub one_enter : Settles enter_kinds.ps enter_kinds.r enter.Post (λ κs s. s.1.0.now)
one_enter κs args a b s t p q = let w = one_number _ a b _ _ p q in (w.0, ap (λ (u : Tables). u.seats) w.1)

-- the tables, and the two words for the shared run
pub one_step : Settles step_kinds.ps step_kinds.r {B = Tables × List ℕ} step.Post (λ κs s. (tables false s.0.now s.1.0.now, s.1.1.1.0.now))
one_step κs args a b s t = one_step_number _ a b _ _ _ _

pub one_release : Settles release_kinds.ps release_kinds.r release.Post (λ κs s. tables false s.0.now s.1.0.now)
one_release κs args a b s t = one_number _ a b _ _

-- free count changes nothing that it was lent
pub one_free_count : SettlesAnswer free_count_kinds.ps free_count_kinds.r free_count_law.Post
one_free_count κs args a b s t p q = same_halves a b (one_value p q)

pub one_run : Settles run_kinds.ps run_kinds.r run.Post (λ κs s. tables false s.0.now s.1.0.now)
one_run κs args a b s t = one_number _ a b _ _

-- the rows, and the word for the covered frames
pub one_board : Settles board_kinds.ps board_kinds.r {B = List ℕ × ℕ} board.Post (λ κs s. (s.1.1.0.now, s.1.1.1.0.now))
one_board κs args a b s t = one_board_number _ a b _ _ _ _

-- ---- the same on a writers' sheet
pub one_sheet_clear : Settles sheet_clear_kinds.ps sheet_clear_kinds.r sheet_clear.Post (λ κs s. tables true s.0.now s.1.0.now)
one_sheet_clear κs args a b s t = one_result _ a b _ _

pub one_sheet_reserve : Settles sheet_reserve_kinds.ps sheet_reserve_kinds.r sheet_reserve.Post (λ κs s. tables true s.0.now s.1.0.now)
one_sheet_reserve κs args a b s t = one_number _ a b _ _

pub one_sheet_enter : Settles sheet_enter_kinds.ps sheet_enter_kinds.r sheet_enter.Post (λ κs s. s.1.0.now)
one_sheet_enter κs args a b s t p q = let w = one_number _ a b _ _ p q in (w.0, ap (λ (u : Tables). u.seats) w.1)

pub one_sheet_step : Settles sheet_step_kinds.ps sheet_step_kinds.r {B = Tables × List ℕ} sheet_step.Post (λ κs s. (tables true s.0.now s.1.0.now, s.1.1.1.0.now))
one_sheet_step κs args a b s t = one_step_number _ a b _ _ _ _

pub one_sheet_release : Settles sheet_release_kinds.ps sheet_release_kinds.r sheet_release.Post (λ κs s. tables true s.0.now s.1.0.now)
one_sheet_release κs args a b s t = one_number _ a b _ _

pub one_sheet_free_count : SettlesAnswer sheet_free_count_kinds.ps sheet_free_count_kinds.r sheet_free_count.Post
one_sheet_free_count κs args a b s t p q = same_halves a b (one_value p q)

pub one_sheet_run : Settles sheet_run_kinds.ps sheet_run_kinds.r sheet_run.Post (λ κs s. tables true s.0.now s.1.0.now)
one_sheet_run κs args a b s t = one_number _ a b _ _

pub one_sheet_board : Settles sheet_board_kinds.ps sheet_board_kinds.r {B = List ℕ × ℕ} sheet_board.Post (λ κs s. (s.1.1.0.now, s.1.1.1.0.now))
one_sheet_board κs args a b s t = one_board_number _ a b _ _ _ _

-- ---- the calls on lists and scripts
-- the list lent for the output
pub one_import : Settles import_kinds.ps import_kinds.r import_reads.Post (λ κs s. s.1.1.0.now)
one_import κs args a b s t = one_list _ a b _ _

pub one_export : Settles export_kinds.ps export_kinds.r export_reads.Post (λ κs s. s.1.1.0.now)
one_export κs args a b s t = one_list _ a b _ _

-- the 5,004 numbers
pub one_read : Settles read_kinds.ps read_kinds.r read.Post (λ κs s. s.1.0.now)
one_read κs args a b s t p q = one_read_number _ a b _ _ p.0 q.0

-- the buffer
pub one_play : Settles play_kinds.ps play_kinds.r play.Post (λ κs s. s.1.0.now)
one_play κs args a b s t p q = one_text _ _ _ _ a b p.0 q.0 p.1.1.1 q.1.1.1 p.1.0 q.1.0
