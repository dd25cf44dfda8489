-- What the library's calls did is what the rules say; so lent tables are reached tables of the rules.
use Prim.Native.Nat.{ℕ, ◌/◌, ◌≤◌}
use mathlib.Core.Path.{◌≡◌, refl, sym, ap, subst, ◌∙◌}
use mathlib.Core.Bool.{true}
use mathlib.Core.List.{List}
use mathlib.Core.Logic.{◌≢◌}
use lib.IntN.{ℤ}
use lib.ListN.{length}
use native.Mathlib.Omega.{arith}
use Rattle.rules.specs.Tables.{Tables, node_count, seat_count}
use Rattle.rules.specs.Shape.{sound}
use Rattle.rules.specs.Answers.{Answer, Done, done}
use Rattle.rules.specs.Calls.{clear}
use Rattle.rules.specs.FreeCount.{Counted, free_count}
use Rattle.rules.specs.Board.{Boarded, Shown, shown, row_width, board_numbers}
use Rattle.rules.specs.Run.{run}
use Rattle.rules.specs.Play.{Call, call}
use Rattle.rules.specs.Reached.{Request, after_request, after_requests, Reached, cleared, asked}
use Rattle.rules.specs.Cause.{step_times}
use Rattle.rules.specs.Locks.{listed, import_locks, export_claims}
use Rattle.rules.specs.declared.Moved.{Moved}
use Rattle.rules.specs.Run.{Ran}
use Rattle.rules.specs.Refusing.{tables_damaged, BoardRefuses, board_damaged}
use Rattle.rules.proofs.Refusing.{count_only, numbers_only, numbers_there}
use Rattle.rules.proofs.Ground.Logic.{clash}
use Rattle.rules.proofs.Ground.Deciding.{if_true}
use Rattle.rules.proofs.Laws.Shape.{lengths_fit_law}
use Rattle.rules.proofs.Rules.RefusedExactly.{clear_accepted}
use Rattle.demands.proofs.Made.{ClearMade, clear_made, CallMade, reserve_made, enter_made, step_made, release_made, RunMade, run_made, CountMade, count_made, BoardMade, board_made, ImportMade, import_made, ExportMade, export_made, RequestMade, a_call, a_run, RequestsMade, no_more, first, StepsMade, no_step, a_step, Lent, lent}

-- ---- each call is its rule
pub made_clear : {t u : Tables} {frames r : ℕ} → ClearMade t frames r u → done r u ≡ clear t frames
made_clear (clear_made P laws profile code κs args r end p) = p

pub made_call : {t u : Tables} {c : Call} {a : Answer} → CallMade t c a u → done a u ≡ call t c
unfolding call
made_call (reserve_made P laws profile code κs args r end p) = p
made_call (enter_made P laws profile code κs args r end p) = p
made_call (step_made P laws profile code κs args r end p) = p
made_call (release_made P laws profile code κs args r end p) = p

pub made_run : {t u : Tables} {schedule : List ℕ} {budget : ℕ} {r : Ran} → RunMade t schedule budget r u → done r u ≡ run t schedule budget
made_run (run_made P laws profile code κs args r end p) = p

pub made_count : {t : Tables} {a : Counted} → CountMade t a → a ≡ free_count t
made_count (count_made P laws profile code κs args r end p) = p

pub made_board : {t : Tables} {rows after : List ℕ} {a : Boarded} → BoardMade t rows a after → shown a after ≡ board_numbers t rows
made_board (board_made P laws profile code κs args r end p) = p

pub made_import : {frames : ℕ} {locks : List ℤ} {lent after : List ℕ} {r : Moved} → ImportMade frames locks lent r after → listed r after ≡ import_locks frames locks lent
made_import (import_made κs args r end p) = p

pub made_export : {frames : ℕ} {claims : List ℕ} {lent after : List ℤ} {r : Moved} → ExportMade frames claims lent r after → listed r after ≡ export_claims frames claims lent
made_export (export_made κs args r end p) = p

-- ---- and so are requests one after the other, and steps of one seat
pub made_request : {t u : Tables} {r : Request} → RequestMade t r u → u ≡ after_request t r
made_request (a_call m) = ap (λ (d : Done Answer). d.after) (made_call m)
made_request (a_run m) = ap (λ (d : Done Ran). d.after) (made_run m)

pub made_requests : {t u : Tables} {requests : List Request} → RequestsMade t requests u → u ≡ after_requests t requests
unfolding after_requests
made_requests no_more = refl
made_requests (first {rest = rest} m more) = made_requests more ∙ ap (λ u. after_requests u rest) (made_request m)

pub made_steps : {s k : ℕ} {t u : Tables} → StepsMade s k t u → u ≡ step_times k t s
unfolding step_times call
made_steps no_step = refl
made_steps {s} (a_step {k = k} m more) = made_steps more ∙ ap (λ u. step_times k u s) (ap (λ (d : Done Answer). d.after) (made_call m))

-- ---- what an accepted clear leaves is a fresh table of as many nodes and seats as the lengths give
pub made_accepted : {t u : Tables} {frames : ℕ} → ClearMade t frames 0 u → (clear t frames).answer ≡ 0
made_accepted m = sym (ap (λ (d : Done ℕ). d.answer) (made_clear m))

cleared_fresh : {t u : Tables} {frames : ℕ} → ClearMade t frames 0 u → Reached (node_count t) (seat_count t) u
cleared_fresh {t} {u} {frames} m =
    let w = clear_accepted t frames (made_accepted m) in
    let fit = lengths_fit_law t w.lengths in
    let some : 1 ≤ frames = let d = w.some_frames in omega arith in
    rw (ap (λ (d : Done ℕ). d.after) (made_clear m), w.makes_fresh) (cleared fit.some_nodes fit.few_nodes fit.some_seats fit.few_seats t.sheet some)

requests_reach : {N S : ℕ} {t u : Tables} {requests : List Request} → Reached N S t → RequestsMade t requests u → Reached N S u
requests_reach r no_more = r
requests_reach {N} {S} r (first {r = request} m more) = requests_reach (subst (Reached N S) (sym (made_request m)) (asked r request)) more

pub lent_reached : {N S : ℕ} {t : Tables} → Lent N S t → Reached N S t
lent_reached (lent c more) = requests_reach (cleared_fresh c) more

-- ---- free count and board on sound tables are not refused 1
pub count_not_1 : {t : Tables} {a : Counted} → sound t ≡ true → CountMade t a → a ≢ Counted.refused 1
count_not_1 {t} e m q = elim (count_only t 1 (sym (made_count m) ∙ q)) [ tables_damaged f ↦ clash (sound t) e f ]

pub board_not_1 : {t : Tables} {rows after : List ℕ} {a : Boarded} → sound t ≡ true → BoardMade t rows a after → a ≢ Boarded.refused 1
board_not_1 {t} {rows} e m q =
    not_damaged (numbers_only t rows 1 (sym (ap (λ (x : Shown ℕ). x.answer) (made_board m)) ∙ q))
  where
    not_damaged : BoardRefuses t (length rows / row_width) 1 → ⊥
    not_damaged (board_damaged f) = clash (sound t) e f

-- ---- and a board that is accepted was of sound tables
pub board_accepted : {t : Tables} {rows after : List ℕ} {n covered : ℕ} → BoardMade t rows (Boarded.filled n covered) after → sound t ≡ true
board_accepted {t} {rows} m =
    if_true (sound t) (λ e. e)
    (λ e. let q = ap (λ (x : Shown ℕ). x.answer) (made_board m ∙ numbers_there t rows 1 (board_damaged e)) in
    let z : ◌≡◌ {A = ℕ} 0 1 = cc in absurd (omega arith))
