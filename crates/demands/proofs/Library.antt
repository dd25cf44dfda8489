-- The demands, of the library: what is proved of the rules, of the library's own promises. The words are those of Made and of the rules'
-- specs/Refusing.antt, Apart.antt, Shared.antt, Cause.antt, Covered.antt, HowMany.antt, Title.antt, Archive.antt, Reserved.antt and Sheets.antt; each proof cites what stands at the
-- door of the rules' proofs.
use Prim.Native.Nat.{ℕ, ◌+◌, ◌*◌, ◌/◌, ◌≤◌}
use mathlib.Core.Path.{◌≡◌, sym, ap, ◌∙◌}
use mathlib.Core.Bool.{true}
use mathlib.Core.List.{List, ◌++◌}
use mathlib.Core.Logic.{◌≢◌, ◌⊎◌}
use lib.IntN.{ℤ}
use lib.ListN.{length, take, drop, replicate}
use Rattle.rules.specs.Tables.{Tables, readers, writers, title, start, kind, phase, own, cur}
use Rattle.rules.specs.Comparison.{Claim, claim_of}
use Rattle.rules.specs.Shape.{sound}
use Rattle.rules.specs.Reach.{list_of}
use Rattle.rules.specs.Answers.{Answer, node, on, wait, back as sent_back, refused, Done, done}
use Rattle.rules.specs.FreeCount.{Counted}
use Rattle.rules.specs.Board.{Boarded, Shown, row_width, holders, covered_by}
use Rattle.rules.specs.Play.{Call, reserve_call, enter_call, step_call, call, seat_of}
use Rattle.rules.specs.Reached.{Request}
use Rattle.rules.specs.Run.{ran}
use Rattle.rules.specs.Locks.{record_width, locks_in, claims_in, Listed, listed, moved, import_locks, export_claims}
use Rattle.rules.specs.Refusing.{WithinTitle, Refuses, ClearRefuses, DamageRefuses, BoardRefuses, LockRefuses, ClaimRefuses, RecordsRefuse}
use Rattle.rules.specs.Apart.{Covers, claim_of_seat, Holds, LinkedIn, Stands, OfOneSeat, Rising, IsItsSteps, Stops, GivenUp, calls_made, StillStands}
use Rattle.rules.specs.Shared.{WholeShared, NoneShared}
use Rattle.rules.specs.Cause.{Cause, Settled, Told}
use Rattle.rules.specs.Covered.{added_up, In32Bits}
use Rattle.rules.specs.HowMany.{CountsRight, CountsMove}
use Rattle.rules.specs.Title.{AllWithin, per_cent}
use Rattle.rules.specs.Archive.{SameFrames, Pairwise, record_numbers}
use Rattle.rules.specs.Reserved.{HasReserved, HasEntered}
use Rattle.rules.specs.Sheets.{OnSheet, SheetPhase, SheetKind, OneAfterTheOther, WaitsAtHolder, SheetSettled, SheetTold}
use Rattle.rules.specs.declared.Moved.{Moved}
use Rattle.rules.specs.Run.{Ran}
use Rattle.rules.proofs.Refusing as refusing
use Rattle.rules.proofs.Apart as apart
use Rattle.rules.proofs.Shared as shares
use Rattle.rules.proofs.Cause as cause
use Rattle.rules.proofs.Covered as covers
use Rattle.rules.proofs.HowMany as many
use Rattle.rules.proofs.Title as titled
use Rattle.rules.proofs.Archive as archive
use Rattle.rules.proofs.Reserved as kept
use Rattle.rules.proofs.Sheets as sheets
use Rattle.demands.proofs.Made.{ClearMade, CallMade, RunMade, CountMade, BoardMade, ImportMade, ExportMade, RequestsMade, StepsMade, Lent}
use Rattle.demands.proofs.MadeByRules.{made_clear, made_accepted, made_call, made_run, made_count, made_board, made_import, made_export, made_requests, made_steps, count_not_1, board_not_1, board_accepted, lent_reached}

-- ---- demand 1, of any tables: a call is refused exactly where the table of refusals says, and a refused one leaves the tables as found
pub refused_only : {t u : Tables} {c : Call} {k : ℕ} → CallMade t c (refused k) u → Refuses t c k × (u ≡ t)
refused_only {t} {u} {c} {k} m =
    let q : (call t c).answer ≡ refused k = sym (ap (λ (d : Done Answer). d.answer) (made_call m)) in
    (refusing.refused_only t c k q, ap (λ (d : Done Answer). d.after) (made_call m) ∙ refusing.refused_changes_nothing t c k q)

pub refused_there : {t u : Tables} {c : Call} {a : Answer} {k : ℕ} → Refuses t c k → CallMade t c a u → (a ≡ refused k) × (u ≡ t)
refused_there {t} {u} {c} {a} {k} r m =
    let e : done a u ≡ done (refused k) t = made_call m ∙ refusing.refused_there t c k r in
    (ap (λ (d : Done Answer). d.answer) e, ap (λ (d : Done Answer). d.after) e)

-- so it is with the other calls: clear
pub clear_refused : {t u : Tables} {frames k : ℕ} → k ≢ 0 → ClearMade t frames k u → ClearRefuses t frames k × (u ≡ t)
clear_refused {t} {u} {frames} {k} d m =
    let e = made_clear m in
    let why = refusing.clear_only t frames k (sym (ap (λ (x : Done ℕ). x.answer) e)) d in
    (why, ap (λ (x : Done ℕ). x.after) (e ∙ refusing.clear_there t frames k why))

-- run as a whole
pub run_refused : {t u : Tables} {schedule : List ℕ} {budget k : ℕ} {r : Ran} → DamageRefuses t k → RunMade t schedule budget r u → (r ≡ ran 0 k) × (u ≡ t)
run_refused {t} {u} {schedule} {budget} {k} {r} why m =
    let e : done r u ≡ done (ran 0 k) t = made_run m ∙ refusing.run_there t schedule budget k why in
    (ap (λ (x : Done Ran). x.answer) e, ap (λ (x : Done Ran). x.after) e)

-- free count, and the board on numbers
pub count_refused : {t : Tables} {k : ℕ} → CountMade t (Counted.refused k) → DamageRefuses t k
count_refused {t} {k} m = refusing.count_only t k (sym (made_count m))

pub board_refused : {t : Tables} {rows after : List ℕ} {k : ℕ} → BoardMade t rows (Boarded.refused k) after → BoardRefuses t (length rows / row_width) k × (after ≡ rows)
board_refused {t} {rows} {after} {k} m =
    let e = made_board m in
    let why = refusing.numbers_only t rows k (sym (ap (λ (x : Shown ℕ). x.answer) e)) in
    (why, ap (λ (x : Shown ℕ). x.board) (e ∙ refusing.numbers_there t rows k why))

-- import and export: a refusal names the first bad record, or none, and the list lent for the output stays
pub import_refused : {frames k place : ℕ} {locks : List ℤ} {lent after : List ℕ} → k ≢ 0 → ImportMade frames locks lent (moved k place) after
    → RecordsRefuse (LockRefuses frames) frames (locks_in locks) (length lent / record_width) k place × (after ≡ lent)
import_refused {frames} {k} {place} {locks} {lent} d m =
    let e = made_import m in
    let why = refusing.import_only frames locks lent k place (sym (ap (λ (x : Listed ℕ). x.answer) e)) d in
    (why, ap (λ (x : Listed ℕ). x.after) (e ∙ refusing.import_there frames locks lent k place why))

pub export_refused : {frames k place : ℕ} {claims : List ℕ} {lent after : List ℤ} → k ≢ 0 → ExportMade frames claims lent (moved k place) after
    → RecordsRefuse (ClaimRefuses frames) frames (claims_in claims) (length lent / record_width) k place × (after ≡ lent)
export_refused {frames} {k} {place} {claims} {lent} d m =
    let e = made_export m in
    let why = refusing.export_only frames claims lent k place (sym (ap (λ (x : Listed ℤ). x.answer) e)) d in
    (why, ap (λ (x : Listed ℤ). x.after) (e ∙ refusing.export_there frames claims lent k place why))

-- ---- a run, of any tables: it is its steps, and on sound tables it stops at the end, when the budget is used, or at the first refused entry
pub run_is_steps : {t u : Tables} {schedule : List ℕ} {budget : ℕ} {r : Ran} → RunMade t schedule budget r u → IsItsSteps t schedule budget (done r u)
run_is_steps {t} {schedule = schedule} {budget} m = rw (made_run m) (apart.run_is_steps t schedule budget)

pub run_stops : {t u : Tables} {schedule : List ℕ} {budget : ℕ} {r : Ran} → sound t ≡ true → RunMade t schedule budget r u → Stops schedule budget (done r u)
run_stops {t} {schedule = schedule} {budget} e m = rw (made_run m) (apart.run_stops t schedule budget e)

-- ---- covered frames, of any tables: an accepted board gives the number of frames that at least one holder covers, each counted once; what
-- stands at the rules' door in Covered holds of it
pub board_covers : {t : Tables} {rows after : List ℕ} {n covered : ℕ} → BoardMade t rows (Boarded.filled n covered) after
    → (n ≡ length (holders t)) × (covered ≡ covered_by (holders t))
board_covers {t} {rows} {n = n} {covered} m = covers.on_the_board_of_numbers t rows n covered (sym (ap (λ (x : Shown ℕ). x.answer) (made_board m)))

-- so it fits 32 bits, as the tables' words do
pub board_fits : {t : Tables} {rows after : List ℕ} {n covered : ℕ} → In32Bits t.nodes → BoardMade t rows (Boarded.filled n covered) after
    → covered ≤ 4294967295
board_fits {t} words m = rw (board_covers m).1 (covers.fits t words)

-- ---- the two counts, of any tables: clear makes them 0; after a call that was not refused as damaged each word is the number of seats that hold
-- with its kind, and the call moved them by its own seat alone
pub clear_counts : {t u : Tables} {frames : ℕ} → ClearMade t frames 0 u → (readers u ≡ 0) × (writers u ≡ 0)
clear_counts {t} {frames = frames} m = rw (ap (λ (x : Done ℕ). x.after) (made_clear m)) (many.cleared t frames (made_accepted m))

pub counts_right : {t u : Tables} {c : Call} {a : Answer} → CallMade t c a u → a ≢ refused 1 → CountsRight u
counts_right {t} {c = c} m d =
    let e = made_call m in
    rw (ap (λ (x : Done Answer). x.after) e) (many.right_unless_damaged t c (λ q. d (ap (λ (x : Done Answer). x.answer) e ∙ q)))

pub counts_move : {t u : Tables} {c : Call} {a : Answer} → CallMade t c a u → CountsMove (seat_of c) t u
counts_move {t} {c = c} m = rw (ap (λ (x : Done Answer). x.after) (made_call m)) (many.by_its_own_seat t c)

pub run_counts_right : {t u : Tables} {schedule : List ℕ} {budget : ℕ} {r : Ran} → sound t ≡ true → RunMade t schedule budget r u → CountsRight u
run_counts_right {t} {schedule = schedule} {budget} e m =
    rw (ap (λ (d : Done Ran). d.after) (made_run m)) (many.run_stays_right t schedule budget (many.right_if_sound t e))

-- ---- the title, of any tables: clear remembers the count that it was given, one of some frames, and no call of the library changes it
pub clear_remembers : {t u : Tables} {frames : ℕ} → ClearMade t frames 0 u → (title u ≡ frames) × (frames ≢ 0)
clear_remembers {t} {frames = frames} m =
    (rw (ap (λ (x : Done ℕ). x.after) (made_clear m)) (titled.remembered t frames (made_accepted m)), titled.some_frames t frames (made_accepted m))

pub title_stays : {t u : Tables} {requests : List Request} → RequestsMade t requests u → title u ≡ title t
title_stays {t} {requests = requests} m = rw (made_requests m) (titled.requests_never_change t requests)

-- so it is what the tables were cleared with
pub as_cleared : {t u v : Tables} {frames : ℕ} {requests : List Request} → ClearMade t frames 0 u → RequestsMade u requests v → title v ≡ frames
as_cleared m more = title_stays more ∙ (clear_remembers m).0

-- whoever is told a node has it for a claim that ends within it
pub reserved_within : {t u : Tables} {s n : ℕ} {c : Claim} → CallMade t (reserve_call s c) (node n) u → WithinTitle t c
unfolding call
reserved_within {t} {s = s} {n} {c} m = titled.reserved_within t s n c (sym (ap (λ (x : Done Answer). x.answer) (made_call m)))

-- and a board that is accepted covers no more frames than the title has: at most 100 per cent
pub board_within : {t : Tables} {rows after : List ℕ} {n covered : ℕ} → BoardMade t rows (Boarded.filled n covered) after → covered ≤ title t
board_within {t} m = rw (board_covers m).1 (titled.covered_within t (board_accepted m))

pub board_at_most_100 : {t : Tables} {rows after : List ℕ} {n covered : ℕ} → BoardMade t rows (Boarded.filled n covered) after
    → per_cent covered (title t) ≤ 100
board_at_most_100 {t} m = rw (board_covers m).1 (titled.at_most_100 t (board_accepted m))

-- ---- which frames clash, of any tables: a step that answers `wait` names the node that its seat then waits at, and the whole of what the claim there and
-- its own cover; 0 and 0 where that is no frame
pub wait_names_the_whole : {t u : Tables} {s n first end : ℕ} → CallMade t (step_call s) (wait n first end) u
    → (cur u s ≡ n) × WholeShared (claim_of u n) (claim_of_seat u s) first end
unfolding call
wait_names_the_whole {t} {s = s} {n} {first} {end} m =
    let e = made_call m in
    let q = sym (ap (λ (x : Done Answer). x.answer) e) in
    rw (ap (λ (x : Done Answer). x.after) e) (shares.at_the_node t s n first end q, shares.wait_names_the_whole t s n first end q)

pub wait_for_no_frame : {t u : Tables} {s n first end : ℕ} → CallMade t (step_call s) (wait n first end) u → NoneShared (claim_of u n) (claim_of_seat u s)
    → (first ≡ 0) × (end ≡ 0)
unfolding call
wait_for_no_frame {t} {s = s} {n} {first} {end} m none =
    let e = made_call m in
    shares.wait_for_no_frame t s n first end (sym (ap (λ (x : Done Answer). x.answer) e)) (rw (ap (λ (x : Done Answer). x.after) e) at none)

-- ---- locks from the archive's file system: what export stored for claims is imported as the numbers of the claims, and what import stored for locks is
-- exported as locks of the same frames, whatever is lent, wherever there is room
pub same_numbers : {frames : ℕ} → frames ≤ 4294967295 → {claims again after : List ℕ} {lent locks : List ℤ} {r : Moved} → ExportMade frames claims lent (moved 0 0) locks
    → ImportMade frames (take (record_numbers claims) locks) again r after → length claims / record_width ≤ length again / record_width
    → (r ≡ moved 0 0) × (after ≡ take (record_numbers claims) claims ++ drop (record_numbers claims) again)
same_numbers {frames} small {claims} {again} {after} {lent} {locks} {r} out back room =
    let o = made_export out in
    let e : listed r after ≡ listed (moved 0 0) (take (record_numbers claims) claims ++ drop (record_numbers claims) again) =
    made_import back
    ∙ ap (λ (x : Listed ℤ). import_locks frames (take (record_numbers claims) x.after) again) o
    ∙ archive.same_numbers frames small claims lent again (sym (ap (λ (x : Listed ℤ). x.answer) o)) room in
    (ap (λ (x : Listed ℕ). x.answer) e, ap (λ (x : Listed ℕ). x.after) e)

pub same_frames : {frames : ℕ} → frames ≤ 4294967295 → {locks again after : List ℤ} {lent claims : List ℕ} {r : Moved} → ImportMade frames locks lent (moved 0 0) claims
    → ExportMade frames (take (record_numbers locks) claims) again r after → length locks / record_width ≤ length again / record_width
    → (r ≡ moved 0 0) × Pairwise (SameFrames frames) (locks_in locks) (locks_in (take (record_numbers locks) after))
same_frames {frames} small {locks} {again} {after} {lent} {claims} {r} inward out room =
    let i = made_import inward in
    let e : listed r after ≡ export_claims frames (take (record_numbers locks) (import_locks frames locks lent).after) again =
    made_export out ∙ ap (λ (x : Listed ℕ). export_claims frames (take (record_numbers locks) x.after) again) i in
    let w = archive.same_frames_in_lists frames small locks lent again (sym (ap (λ (x : Listed ℕ). x.answer) i)) room in
    (ap (λ (x : Listed ℤ). x.answer) e ∙ w.0, rw (ap (λ (x : Listed ℤ). x.after) e) w.1)

-- ---- reserve and enter, of any tables: who is told a node has it reserved for its claim, and who is told `on` by enter stands at the head, with no word
-- of the nodes changed; on sound tables a seat in phase 7 is told so whenever it enters
pub reserve_reserves : {t u : Tables} {s n : ℕ} {c : Claim} → CallMade t (reserve_call s c) (node n) u → HasReserved u s n c
unfolding call
reserve_reserves {t} {s = s} {n} {c} m =
    let e = made_call m in
    rw (ap (λ (x : Done Answer). x.after) e) (kept.reserve_reserves t s n c (sym (ap (λ (x : Done Answer). x.answer) e)))

pub enter_enters : {t u : Tables} {s : ℕ} → CallMade t (enter_call s) on u → HasEntered t u s
unfolding call
enter_enters {t} {s = s} m =
    let e = made_call m in
    rw (ap (λ (x : Done Answer). x.after) e) (kept.enter_enters t s (sym (ap (λ (x : Done Answer). x.answer) e)))

pub may_enter : {t u : Tables} {s : ℕ} {a : Answer} → sound t ≡ true → phase t s ≡ 7 → CallMade t (enter_call s) a u → a ≡ on
unfolding call
may_enter {t} {s = s} e p m = ap (λ (x : Done Answer). x.answer) (made_call m) ∙ kept.may_enter t s e p

-- ---- writers' sheets, of any tables: no call makes a sheet of ordinary tables or the other way round, and no step of a sheet is refused 8, nor is a run
pub profile_stays : {t u : Tables} {requests : List Request} → RequestsMade t requests u → u.sheet ≡ t.sheet
profile_stays {t} {requests = requests} m = rw (made_requests m) (sheets.requests_keep_profile t requests)

pub sheet_never_8 : {t u : Tables} {s : ℕ} {a : Answer} → OnSheet t → CallMade t (step_call s) a u → a ≢ refused 8
unfolding call
sheet_never_8 {t} {s = s} q m = rw (ap (λ (x : Done Answer). x.answer) (made_call m)) (sheets.step_never_8 t s q)

pub sheet_run_never_8 : {t u : Tables} {schedule : List ℕ} {budget : ℕ} {r : Ran} → OnSheet t → RunMade t schedule budget r u → r.refusal ≢ 8
sheet_run_never_8 {t} {schedule = schedule} {budget} q m = rw (ap (λ (x : Done Ran). x.answer) (made_run m)) (sheets.run_never_8 t schedule budget q)

-- ---- demand 2, of tables that the library cleared and that only its calls have changed since
module _ {N S : ℕ} {t : Tables} (l : Lent N S t) where
  -- two holders share a frame only if both read
  pub holders_apart : (i j frame : ℕ) → i ≢ j → Holds t i → Holds t j → Covers (claim_of_seat t i) frame → Covers (claim_of_seat t j) frame
      → ((claim_of_seat t i).kind ≡ 1) × ((claim_of_seat t j).kind ≡ 1)
  holders_apart = apart.apart (lent_reached l)

  -- the list is ordered by first frame
  pub ordered : Rising (start t) (list_of t)
  ordered = apart.ordered (lent_reached l)

  -- linked claims stand on it, on nodes that differ, and nothing else stands there
  pub linked_claims_stand : (s : ℕ) → LinkedIn t s → Stands t (own t s)
  linked_claims_stand = apart.linked_claims_stand (lent_reached l)

  pub nodes_differ : (i j : ℕ) → i ≢ j → phase t i ≢ 0 → phase t j ≢ 0 → own t i ≢ own t j
  nodes_differ = apart.nodes_differ (lent_reached l)

  pub stands_for_one_seat : (a : ℕ) → Stands t a → OfOneSeat t a
  stands_for_one_seat = apart.stands_for_one_seat (lent_reached l)

  -- over any calls of the library a linked claim stands as it was, unless its seat gives it up in one of them
  pub nothing_dropped : (s : ℕ) → LinkedIn t s → {requests : List Request} {u : Tables} → RequestsMade t requests u
      → StillStands s t u ⊎ GivenUp s t (calls_made t requests)
  nothing_dropped s h {requests} m = rw (made_requests m) (apart.nothing_dropped (lent_reached l) s h requests)

  -- the tables are never damaged: no call is refused 1
  pub always_sound : sound t ≡ true
  always_sound = apart.always_sound (lent_reached l)

  pub never_damaged : {c : Call} {a : Answer} {u : Tables} → CallMade t c a u → a ≢ refused 1
  never_damaged {c} m = rw (ap (λ (d : Done Answer). d.answer) (made_call m)) (apart.never_damaged (lent_reached l) c)

  pub run_never_damaged : {schedule : List ℕ} {budget : ℕ} {r : Ran} {u : Tables} → RunMade t schedule budget r u → r.refusal ≢ 1
  run_never_damaged {schedule} {budget} m = rw (ap (λ (d : Done Ran). d.answer) (made_run m)) (apart.run_never_damaged (lent_reached l) schedule budget)

  pub count_never_damaged : {a : Counted} → CountMade t a → a ≢ Counted.refused 1
  count_never_damaged = count_not_1 always_sound

  pub board_never_damaged : {rows after : List ℕ} {a : Boarded} → BoardMade t rows a after → a ≢ Boarded.refused 1
  board_never_damaged = board_not_1 always_sound

  -- the display's two words are the counts over the seats, and together the rows of every board
  pub always_right : CountsRight t
  always_right = many.always_right (lent_reached l)

  pub counts_are_rows : {rows after : List ℕ} {n covered : ℕ} → BoardMade t rows (Boarded.filled n covered) after → readers t + writers t ≡ n
  counts_are_rows m = many.all_holders t always_sound ∙ sym (board_covers m).0

  -- no claim ends beyond the title, a seat's or a free node's
  pub always_within : AllWithin t
  always_within = titled.always_within (lent_reached l)

  -- where all holders write, covered is what 01 had: the sum over the rows
  pub writers_covered : {rows after : List ℕ} {n covered : ℕ} → ((s : ℕ) → Holds t s → (claim_of_seat t s).kind ≡ 2) → BoardMade t rows (Boarded.filled n covered) after
      → covered ≡ added_up (holders t)
  writers_covered writers m = (board_covers m).1 ∙ covers.the_sum_for_writers (lent_reached l) writers

  -- ---- demand 3: every `wait n first end` has its cause at node n, in the frames from first up to end
  pub every_wait_has_its_cause : (s n first end : ℕ) {u : Tables} → CallMade t (step_call s) (wait n first end) u → Cause u s n first end
  unfolding call
  every_wait_has_its_cause s n first end m =
      let e = made_call m in
      rw (ap (λ (d : Done Answer). d.after) e) (cause.every_wait_has_its_cause (lent_reached l) s n first end (sym (ap (λ (d : Done Answer). d.answer) e)))

  -- so nobody waits at a node that is reserved
  pub nobody_waits_at_reserved : (s n first end : ℕ) {u : Tables} → CallMade t (step_call s) (wait n first end) u → (r : ℕ) → phase u r ≡ 7 → own u r ≢ n
  unfolding call
  nobody_waits_at_reserved s n first end m =
      let e = made_call m in
      rw (ap (λ (d : Done Answer). d.after) e) (kept.nobody_waits_at_it (lent_reached l) s n first end (sym (ap (λ (d : Done Answer). d.answer) e)))

  -- 6·N + 10 steps of a seat with a claim settle it, and the last of them tells the worker how
  pub nobody_waits_without_cause : (s : ℕ) → phase t s ≢ 0 → {u : Tables} → StepsMade s (6 * N + 10) t u → Settled u s
  nobody_waits_without_cause s d m = rw (made_steps m) (cause.nobody_waits_without_cause (lent_reached l) s d)

  pub last_step_tells : (s : ℕ) → phase t s ≢ 0 → {u v : Tables} {a : Answer} → StepsMade s (6 * N + 9) t u → CallMade u (step_call s) a v → Told s a v
  unfolding call
  last_step_tells s d m last =
      let e = made_call last in
      rw (ap (λ (d : Done Answer). d.answer) e, ap (λ (d : Done Answer). d.after) e, made_steps m) (cause.last_step_tells (lent_reached l) s d)

  -- so does one run of as many entries of the seat, with a budget as large
  pub run_settles : (s : ℕ) → phase t s ≢ 0 → {budget : ℕ} {r : Ran} {u : Tables} → 6 * N + 10 ≤ budget → RunMade t (replicate (6 * N + 10) s) budget r u → Settled u s
  run_settles s d {budget} h m = rw (ap (λ (d : Done Ran). d.after) (made_run m)) (cause.run_settles (lent_reached l) s d budget h)

-- ---- writers' sheets that the library cleared and that only its calls have changed since
module _ {N S : ℕ} {t : Tables} (l : Lent N S t) (q : OnSheet t) where
  -- two holders share no frame, each claim on the list ends before the next one starts, and covered is the sum over the rows
  pub sheet_holders_apart : (i j frame : ℕ) → i ≢ j → Holds t i → Holds t j → Covers (claim_of_seat t i) frame → Covers (claim_of_seat t j) frame → ⊥
  sheet_holders_apart = sheets.apart (lent_reached l) q

  pub sheet_one_after_the_other : OneAfterTheOther t (list_of t)
  sheet_one_after_the_other = sheets.one_after_the_other (lent_reached l) q

  pub sheet_covered : {rows after : List ℕ} {n covered : ℕ} → BoardMade t rows (Boarded.filled n covered) after → covered ≡ added_up (holders t)
  sheet_covered m = (board_covers m).1 ∙ sheets.covered_is_the_sum (lent_reached l) q

  -- only its phases and kinds are there, and whoever is linked in holds
  pub sheet_phases : (s : ℕ) → SheetPhase (phase t s)
  sheet_phases = sheets.always_in_these_phases (lent_reached l) q

  pub sheet_kinds : (a : ℕ) → SheetKind (kind t a)
  sheet_kinds = sheets.always_of_these_kinds (lent_reached l) q

  pub sheet_linked_holds : (s : ℕ) → LinkedIn t s → Holds t s
  sheet_linked_holds = sheets.linked_holds (lent_reached l) q

  -- nobody is sent back, and whoever waits waits at a holder
  pub sheet_never_back : {s : ℕ} {a : Answer} {u : Tables} → CallMade t (step_call s) a u → a ≢ sent_back
  unfolding call
  sheet_never_back {s} m = rw (ap (λ (x : Done Answer). x.answer) (made_call m)) (sheets.step_never_back (lent_reached l) q s)

  pub sheet_waits_at_holder : (s n first end : ℕ) {u : Tables} → CallMade t (step_call s) (wait n first end) u → WaitsAtHolder u s n first end
  unfolding call
  sheet_waits_at_holder s n first end m =
      let e = made_call m in
      rw (ap (λ (d : Done Answer). d.after) e) (sheets.every_wait_is_at_a_holder (lent_reached l) q s n first end (sym (ap (λ (d : Done Answer). d.answer) e)))

  -- 4·N + 8 steps of a seat with a claim settle it, and the last of them tells the worker how
  pub sheet_settles : (s : ℕ) → phase t s ≢ 0 → {u : Tables} → StepsMade s (4 * N + 8) t u → SheetSettled u s
  sheet_settles s d m = rw (made_steps m) (sheets.sheet_settles (lent_reached l) q s d)

  pub sheet_last_step_tells : (s : ℕ) → phase t s ≢ 0 → {u v : Tables} {a : Answer} → StepsMade s (4 * N + 7) t u → CallMade u (step_call s) a v → SheetTold s a v
  unfolding call
  sheet_last_step_tells s d m last =
      let e = made_call last in
      rw (ap (λ (d : Done Answer). d.answer) e, ap (λ (d : Done Answer). d.after) e, made_steps m) (sheets.last_step_tells (lent_reached l) q s d)

  -- so does one run of as many entries of the seat, with a budget as large, and it takes them all
  pub sheet_run_settles : (s : ℕ) → phase t s ≢ 0 → {budget : ℕ} {r : Ran} {u : Tables} → 4 * N + 8 ≤ budget → RunMade t (replicate (4 * N + 8) s) budget r u
      → SheetSettled u s × (r ≡ ran (4 * N + 8) 0)
  sheet_run_settles s d {budget} h m =
      let e = made_run m in (
        rw (ap (λ (d : Done Ran). d.after) e) (sheets.run_settles (lent_reached l) q s d budget h),
        ap (λ (d : Done Ran). d.answer) e ∙ sheets.solo_run_ends (lent_reached l) q s d (4 * N + 8) budget h,
      )
