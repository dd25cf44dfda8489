-- The number that a call returns tells the definition's answer: what a caller decodes from it, with what the call left, is the whole of
-- what the definition gives. Nothing is asked of a caller. It is the promise itself that is cited, as the checker reads it from the source.
use Prim.Native.Nat.{ℕ}
use mathlib.Core.List.{List}
use mathlib.Core.Path.{◌≡◌, refl, sym, ap, ◌∙◌}
use mathlib.Core.Bool.{false}
use borrow.Fn.Kinds.{ParamKind, ResultKind, Out as Promise, Dens, res_t, ended_of}
use contract.Lifetimes.{Lfts}
use denote.Triple.Clauses.{AtExit}
use Rattle.rules.specs.Tables.{Tables, tables}
use Rattle.rules.specs.Comparison.{Claim, claim}
use Rattle.rules.specs.Answers.{Answer, node, out, on, wait, held, back, refused, Done, done}
use Rattle.rules.specs.FreeCount.{Counted, free_count}
use Rattle.rules.specs.Board.{Boarded, Shown, shown, board_numbers}
use Rattle.rules.specs.Calls as call
use Rattle.rules.specs.Run as running
use Rattle.rules.specs.Run.{Ran}
use Rattle.rules.proofs.Rules.Accepting.{reserve_answers, release_answers}
use Rattle.rules.proofs.Frames.Entered.{enter_answers}
use Rattle.replies.specs.Codes.{answer_by}
use Rattle.boundary.specs.Encoded.{Halves, halves_of, encode, encode_count, encode_ran, encoded, encoded_run, StepTold, step_told, shared_after, tell_step, Told, told, tell_answer, tell}
use Rattle.boundary.specs.Decoded.{decode, decode_step, decode_count, decode_ran, decode_board}
use Rattle.boundary.proofs.soodhiqune_reserve.Reads as reserve
use Rattle.boundary.proofs.soodhiqune_reserve.Kinds as reserve_kinds
use Rattle.boundary.proofs.soodhiqune_enter.Reads as enter
use Rattle.boundary.proofs.soodhiqune_enter.Kinds as enter_kinds
use Rattle.boundary.proofs.soodhiqune_step.Reads as step
use Rattle.boundary.proofs.soodhiqune_step.Kinds as step_kinds
use Rattle.boundary.proofs.soodhiqune_release.Reads as release
use Rattle.boundary.proofs.soodhiqune_release.Kinds as release_kinds
use Rattle.boundary.proofs.soodhiqune_free_count.Reads as free_count_law
use Rattle.boundary.proofs.soodhiqune_free_count.Kinds as free_count_kinds
use Rattle.boundary.proofs.soodhiqune_run.Reads as run
use Rattle.boundary.proofs.soodhiqune_run.Kinds as run_kinds
use Rattle.boundary.proofs.soodhiqune_board.Reads as board
use Rattle.boundary.proofs.soodhiqune_board.Kinds as board_kinds

-- what is read in a result that meets a promise is what the definition gives on the same arguments
abbrev pub Tells : {n : ℕ} (ps : List (ParamKind n)) (r : ResultKind n) {B : Type 0} → Promise n ps r → ((κs : Lfts n) → Dens κs ps → B) → ((κs : Lfts n) → (res_t r κs).Denot → AtExit (ended_of n ps r) κs → B) → Type 0
Tells {n} ps r promise given read =
    (κs : Lfts n) (args : Dens κs ps) (a : (res_t r κs).Denot) (s : AtExit (ended_of n ps r) κs) →
    promise κs args a s →
    read κs a s ≡ given κs args

-- ---- a step's answer is read back from its halves and its two words, whatever its numbers
pub answer_back : (lent : List ℕ) (a : Answer) → decode_step (encode a) (shared_after lent a) ≡ a
unfolding answer_by
answer_back lent (node n) = refl
answer_back lent out = refl
answer_back lent on = refl
answer_back lent (wait n first end) = refl
answer_back lent held = refl
answer_back lent back = refl
answer_back lent (refused number) = refl

-- so two different answers never give one number and the same two words
pub answers_apart : (lent : List ℕ) (a b : Answer) → encode a ≡ encode b → shared_after lent a ≡ shared_after lent b → a ≡ b
answers_apart lent a b e f = sym (answer_back lent a) ∙ rw (e, f) (answer_back lent b)

-- those of reserve, enter and release, which are no waits, from the halves alone
abbrev ReadBack : Answer → Type 0
ReadBack a = decode (encode a) ≡ a

reserve_back : (t : Tables) (s : ℕ) (c : Claim) → ReadBack (call.reserve t s c).answer
unfolding answer_by
reserve_back t s c = reserve_answers t s c ReadBack (λ n. refl) (λ number. refl)

enter_back : (t : Tables) (s : ℕ) → ReadBack (call.enter t s).answer
unfolding answer_by
enter_back t s = enter_answers t s ReadBack refl (λ number. refl)

release_back : (t : Tables) (s : ℕ) → ReadBack (call.release t s).answer
unfolding answer_by
release_back t s = release_answers t s ReadBack refl (λ number. refl)

pub count_back : (c : Counted) → decode_count (encode_count c) ≡ c
count_back (Counted.counted n) = refl
count_back (Counted.refused number) = refl

pub ran_back : (r : Ran) → decode_ran (encode_ran r) ≡ r
ran_back r = refl

pub board_back : (covered : ℕ) (b : Boarded) (l : List ℕ) → decode_board (tell_answer covered b l).number (tell_answer covered b l).covered ≡ b
unfolding tell_answer
board_back covered (Boarded.filled count frames) l = refl
board_back covered (Boarded.refused number) l = refl

rows_back : (covered : ℕ) (b : Boarded) (l : List ℕ) → (tell_answer covered b l).board ≡ l
unfolding tell_answer
rows_back covered (Boarded.filled count frames) l = refl
rows_back covered (Boarded.refused number) l = refl

-- ---- so is what a call gave
done_back : (d : Done Answer) → ReadBack d.answer → (r : ℕ) (t : Tables) → done (halves_of r) t ≡ encoded d → done (decode (halves_of r)) t ≡ d
done_back d e r t p = ap (λ (x : Done Halves). done (decode x.answer) x.after) p ∙ ap (λ (a : Answer). done a d.after) e

step_back : (d : Done Answer) (lent shared : List ℕ) (r : ℕ) (t : Tables) → step_told (halves_of r) shared t ≡ tell_step lent d → done (decode_step (halves_of r) shared) t ≡ d
step_back d lent shared r t p =
    ap (λ (x : StepTold). done (decode_step x.number x.shared) x.after) p ∙ ap (λ (a : Answer). done a d.after) (answer_back lent d.answer)

run_back : (d : Done Ran) (r : ℕ) (t : Tables) → done (halves_of r) t ≡ encoded_run d → done (decode_ran (halves_of r)) t ≡ d
run_back d r t p = ap (λ (x : Done Halves). done (decode_ran x.answer) x.after) p

told_back : (d : Shown ℕ) (lent r covered : ℕ) (rows : List ℕ) → told (halves_of r) covered rows ≡ tell lent d → shown (decode_board (halves_of r) covered) rows ≡ d
told_back d lent r covered rows p =
    ap (λ (x : Told). shown (decode_board x.number x.covered) x.board) p
    ∙ ap (λ (b : Boarded). shown b (tell lent d).board) (board_back lent d.answer d.board)
    ∙ ap (shown d.answer) (rows_back lent d.answer d.board)

-- ---- the calls
pub reserve_told : Tells reserve_kinds.ps reserve_kinds.r reserve.Post
    (λ κs args. call.reserve (tables false args.0.now args.1.0.now) args.1.1.0 (claim args.1.1.1.0 args.1.1.1.1.0 args.1.1.1.1.1.0))
    (λ κs r s. done (decode (halves_of r)) (tables false s.0.now s.1.0.now))
reserve_told κs args r s = done_back _ (reserve_back _ _ _) r _

-- enter is lent the nodes to read only
pub enter_told : Tells enter_kinds.ps enter_kinds.r {B = Answer × List ℕ} enter.Post
    (λ κs args. let d = call.enter (tables false args.0.now args.1.0.now) args.1.1.0 in (d.answer, d.after.seats))
    (λ κs r s. (decode (halves_of r), s.1.0.now))
enter_told κs args r s p = ap (λ (d : Done Answer). (d.answer, d.after.seats)) (done_back _ (enter_back _ _) r _ p)

pub step_told_law : Tells step_kinds.ps step_kinds.r step.Post
    (λ κs args. call.step (tables false args.0.now args.1.0.now) args.1.1.0)
    (λ κs r s. done (decode_step (halves_of r) s.1.1.1.0.now) (tables false s.0.now s.1.0.now))
step_told_law κs args r s = step_back _ _ _ r _

pub release_told : Tells release_kinds.ps release_kinds.r release.Post
    (λ κs args. call.release (tables false args.0.now args.1.0.now) args.1.1.0)
    (λ κs r s. done (decode (halves_of r)) (tables false s.0.now s.1.0.now))
release_told κs args r s = done_back _ (release_back _ _) r _

pub free_count_told : Tells free_count_kinds.ps free_count_kinds.r free_count_law.Post
    (λ κs args. free_count (tables false args.0.now args.1.0.now))
    (λ κs r s. decode_count (halves_of r))
free_count_told κs args r s p = ap decode_count p ∙ count_back (free_count (tables false args.0.now args.1.0.now))

pub run_told : Tells run_kinds.ps run_kinds.r run.Post
    (λ κs args. running.run (tables false args.0.now args.1.0.now) args.1.1.0.now args.1.1.1.0)
    (λ κs r s. done (decode_ran (halves_of r)) (tables false s.0.now s.1.0.now))
run_told κs args r s = run_back _ r _

pub board_told : Tells board_kinds.ps board_kinds.r board.Post
    (λ κs args. board_numbers (tables false args.0.now args.1.0.now) args.1.1.0.now)
    (λ κs r s. shown (decode_board (halves_of r) s.1.1.1.0.now) s.1.1.0.now)
board_told κs args r s = told_back _ _ r _ _
