-- What the library's calls did, under names: the tables that a call was lent, what it was told, what it answered, and the tables that it left.
-- What ties them together is the call's own promise, as the checker reads it from the source: `args` is what the call was given, in the
-- order of its parameters, `profile` the tables' profile, whatever type says it, `r` its result, `end` what the lent tables hold when it returns.
use Prim.Native.Nat.{ℕ, suc}
use mathlib.Core.List.{List, [], ◌∷◌}
use lib.IntN.{ℤ}
use borrow.Fn.Kinds.{Dens, res_t, ended_of}
use contract.Lifetimes.{Lfts}
use denote.Triple.Clauses.{AtExit}
use denote.RattleType.{RattleType}
use denote.Param.Laws.{Laws}
use mir.Syntax.{Dict}
use Rattle.rules.specs.Tables.{Tables, tables, node_count, seat_count}
use Rattle.rules.specs.Answers.{Answer}
use Rattle.rules.specs.FreeCount.{Counted}
use Rattle.rules.specs.Board.{Boarded}
use Rattle.rules.specs.Means.{means, means_count, means_board, means_run, means_done, means_moved, means_claim}
use Rattle.rules.specs.Play.{Call, reserve_call, enter_call, step_call, release_call}
use Rattle.rules.specs.Reached.{Request, single, running}
use Rattle.rules.specs.declared.Moved.{Moved}
use Rattle.rules.specs.declared.Profile.{Ghosts}
use Rattle.rules.specs.Run.{Ran}
use Rattle.claims.proofs.clear.Reads as clearing
use Rattle.claims.proofs.clear.Kinds as clear_kinds
use Rattle.claims.proofs.reserve.Reads as reserving
use Rattle.claims.proofs.reserve.Kinds as reserve_kinds
use Rattle.claims.proofs.enter.Reads as entering
use Rattle.claims.proofs.enter.Kinds as enter_kinds
use Rattle.claims.proofs.step.Reads as stepping
use Rattle.claims.proofs.step.Kinds as step_kinds
use Rattle.claims.proofs.release.Reads as releasing
use Rattle.claims.proofs.release.Kinds as release_kinds
use Rattle.claims.proofs.free_count.Reads as counting
use Rattle.claims.proofs.free_count.Kinds as count_kinds
use Rattle.run.proofs.run.Reads as run_reads
use Rattle.run.proofs.run.Kinds as run_kinds
use Rattle.board.proofs.board.Reads as board_reads
use Rattle.board.proofs.board.Kinds as board_kinds
use Rattle.posix.proofs.import.Reads as import_reads
use Rattle.posix.proofs.import.Kinds as import_kinds
use Rattle.posix.proofs.export.Reads as export_reads
use Rattle.posix.proofs.export.Kinds as export_kinds

-- clear: the tables before, the title's frame count, the number returned, the tables after
pub data ClearMade : Tables → ℕ → ℕ → Tables → Type 2 where
  clear_made : (P : RattleType) (laws : Laws P) (profile : Ghosts P.Denot) (code : Dict) (κs : Lfts 3) (args : Dens κs (clear_kinds.ps P laws)) (r : (res_t (clear_kinds.r P laws) κs).Denot)
      (end : AtExit (ended_of 3 (clear_kinds.ps P laws) (clear_kinds.r P laws)) κs)
      → clearing.Post P laws profile code κs args r end
      → ClearMade (tables profile.SHEET args.0.now args.1.0.now) args.1.1.0 (means_done r) (tables profile.SHEET end.0.now end.1.0.now)

-- reserve, enter, step or release: the tables before, the call with its numbers, the answer, the tables after. Enter is lent the nodes to read only
pub data CallMade : Tables → Call → Answer → Tables → Type 2 where
  reserve_made : (P : RattleType) (laws : Laws P) (profile : Ghosts P.Denot) (code : Dict) (κs : Lfts 3) (args : Dens κs (reserve_kinds.ps P laws)) (r : (res_t (reserve_kinds.r P laws) κs).Denot)
      (end : AtExit (ended_of 3 (reserve_kinds.ps P laws) (reserve_kinds.r P laws)) κs)
      → reserving.Post P laws profile code κs args r end
      → CallMade (tables profile.SHEET args.0.now args.1.0.now) (reserve_call args.1.1.0 (means_claim args.1.1.1.0)) (means r) (tables profile.SHEET end.0.now end.1.0.now)
  enter_made : (P : RattleType) (laws : Laws P) (profile : Ghosts P.Denot) (code : Dict) (κs : Lfts 3) (args : Dens κs (enter_kinds.ps P laws)) (r : (res_t (enter_kinds.r P laws) κs).Denot)
      (end : AtExit (ended_of 3 (enter_kinds.ps P laws) (enter_kinds.r P laws)) κs)
      → entering.Post P laws profile code κs args r end
      → CallMade (tables profile.SHEET args.0.now args.1.0.now) (enter_call args.1.1.0) (means r) (tables profile.SHEET args.0.now end.1.0.now)
  step_made : (P : RattleType) (laws : Laws P) (profile : Ghosts P.Denot) (code : Dict) (κs : Lfts 3) (args : Dens κs (step_kinds.ps P laws)) (r : (res_t (step_kinds.r P laws) κs).Denot)
      (end : AtExit (ended_of 3 (step_kinds.ps P laws) (step_kinds.r P laws)) κs)
      → stepping.Post P laws profile code κs args r end
      → CallMade (tables profile.SHEET args.0.now args.1.0.now) (step_call args.1.1.0) (means r) (tables profile.SHEET end.0.now end.1.0.now)
  release_made : (P : RattleType) (laws : Laws P) (profile : Ghosts P.Denot) (code : Dict) (κs : Lfts 3) (args : Dens κs (release_kinds.ps P laws)) (r : (res_t (release_kinds.r P laws) κs).Denot)
      (end : AtExit (ended_of 3 (release_kinds.ps P laws) (release_kinds.r P laws)) κs)
      → releasing.Post P laws profile code κs args r end
      → CallMade (tables profile.SHEET args.0.now args.1.0.now) (release_call args.1.1.0) (means r) (tables profile.SHEET end.0.now end.1.0.now)

-- run: the tables before, the schedule, the budget, what it answered, the tables after
pub data RunMade : Tables → List ℕ → ℕ → Ran → Tables → Type 2 where
  run_made : (P : RattleType) (laws : Laws P) (profile : Ghosts P.Denot) (code : Dict) (κs : Lfts 4) (args : Dens κs (run_kinds.ps P laws)) (r : (res_t (run_kinds.r P laws) κs).Denot)
      (end : AtExit (ended_of 4 (run_kinds.ps P laws) (run_kinds.r P laws)) κs)
      → run_reads.Post P laws profile code κs args r end
      → RunMade (tables profile.SHEET args.0.now args.1.0.now) args.1.1.0.now args.1.1.1.0 (means_run r) (tables profile.SHEET end.0.now end.1.0.now)

-- free count: the tables, and what it answered
pub data CountMade : Tables → Counted → Type 2 where
  count_made : (P : RattleType) (laws : Laws P) (profile : Ghosts P.Denot) (code : Dict) (κs : Lfts 3) (args : Dens κs (count_kinds.ps P laws)) (r : (res_t (count_kinds.r P laws) κs).Denot)
      (end : AtExit (ended_of 3 (count_kinds.ps P laws) (count_kinds.r P laws)) κs)
      → counting.Post P laws profile code κs args r end
      → CountMade (tables profile.SHEET args.0.now args.1.0.now) (means_count r)

-- board on numbers: the tables, the lent list, what it answered, the list afterwards
pub data BoardMade : Tables → List ℕ → Boarded → List ℕ → Type 2 where
  board_made : (P : RattleType) (laws : Laws P) (profile : Ghosts P.Denot) (code : Dict) (κs : Lfts 4) (args : Dens κs (board_kinds.ps P laws)) (r : (res_t (board_kinds.r P laws) κs).Denot)
      (end : AtExit (ended_of 4 (board_kinds.ps P laws) (board_kinds.r P laws)) κs)
      → board_reads.Post P laws profile code κs args r end
      → BoardMade (tables profile.SHEET args.0.now args.1.0.now) args.1.1.0.now (means_board r) end.1.1.0.now

-- import: the title's frame count, the locks, the list lent for the claims, what it answered, that list afterwards; and export, the other way
pub data ImportMade : ℕ → List ℤ → List ℕ → Moved → List ℕ → Type 0 where
  import_made : (κs : Lfts 2) (args : Dens κs import_kinds.ps) (r : (res_t import_kinds.r κs).Denot) (end : AtExit (ended_of 2 import_kinds.ps import_kinds.r) κs)
      → import_reads.Post κs args r end
      → ImportMade args.0 args.1.0.now args.1.1.0.now (means_moved r) end.1.1.0.now

pub data ExportMade : ℕ → List ℕ → List ℤ → Moved → List ℤ → Type 0 where
  export_made : (κs : Lfts 2) (args : Dens κs export_kinds.ps) (r : (res_t export_kinds.r κs).Denot) (end : AtExit (ended_of 2 export_kinds.ps export_kinds.r) κs)
      → export_reads.Post κs args r end
      → ExportMade args.0 args.1.0.now args.1.1.0.now (means_moved r) end.1.1.0.now

-- ---- one after the other
pub data RequestMade : Tables → Request → Tables → Type 2 where
  a_call : {t u : Tables} {c : Call} {a : Answer} → CallMade t c a u → RequestMade t (single c) u
  a_run : {t u : Tables} {schedule : List ℕ} {budget : ℕ} {r : Ran} → RunMade t schedule budget r u → RequestMade t (running schedule budget) u

pub data RequestsMade : Tables → List Request → Tables → Type 2 where
  no_more : {t : Tables} → RequestsMade t [] t
  first : {t u v : Tables} {r : Request} {rest : List Request} → RequestMade t r u → RequestsMade u rest v → RequestsMade t (r ∷ rest) v

-- so many steps of seat s
pub data StepsMade (s : ℕ) : ℕ → Tables → Tables → Type 2 where
  no_step : {t : Tables} → StepsMade s 0 t t
  a_step : {k : ℕ} {t u v : Tables} {a : Answer} → CallMade t (step_call s) a u → StepsMade s k u v → StepsMade s (suc k) t v

-- tables of N nodes and S seats that the library's clear accepted, for any title, and that were changed since by its calls alone, refused ones among
-- them
pub data Lent : ℕ → ℕ → Tables → Type 2 where
  lent : {t u v : Tables} {frames : ℕ} {requests : List Request} → ClearMade t frames 0 u → RequestsMade u requests v → Lent (node_count t) (seat_count t) v
