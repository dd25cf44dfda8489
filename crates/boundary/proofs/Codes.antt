-- What each call gives as a number, from what it gives as a value: one law for each way through the code.
use Prim.Native.Nat.{ℕ, zero, suc, ◌+◌, ◌*◌, ◌/◌, ◌%◌, ◌≤◌, ◌<◌}
use mathlib.Core.Logic.{◌≢◌}
use native.Mathlib.Numerals.{add-one}
use lib.ListN.{get_or, set, length, length-set}
use borrow.Author.Tests.{ne_eqb}
use Rattle.rules.specs.Script.{no_line, bad_at}
use Rattle.rules.specs.declared.Wrong.{Wrong}
use Rattle.rules.specs.declared.Line.{Line}
use Rattle.rules.specs.Script.{Script}
use mathlib.Core.Path.{◌≡◌, refl, sym, ap, ◌∙◌}
use mathlib.Core.List.{List, [], ◌∷◌}
use native.Mathlib.Omega.{arith}
use Rattle.rules.specs.Tables.{Tables}
use Rattle.rules.specs.Answers.{Answer, Done, done}
use Rattle.rules.specs.FreeCount.{Counted}
use Rattle.rules.specs.Board.{Boarded, Shown, shown}
use Rattle.std.specs.Prelude.{Option, None, Some, Result, Ok, Err}
use Rattle.rules.specs.Means.{number_of, means, means_count, means_board, means_run, means_script}
use Rattle.rules.specs.declared.Refused.{Refused}
use Rattle.rules.specs.declared.Reply.{Reply}
use Rattle.rules.specs.declared.Reply.TheVariants.{Node, Out, On, Wait, Held, Back}
use Rattle.rules.specs.declared.Filled.{Filled}
use Rattle.rules.specs.declared.SharedRun.{SharedRun}
use Rattle.rules.specs.declared.Ran as told_ran
use Rattle.rules.specs.declared.Script as read_into
use Rattle.rules.specs.Run.{Ran}
use Rattle.replies.specs.Codes.{said_of}
use Rattle.replies.specs.declared.Said.{Said}
use Rattle.boundary.specs.Encoded.{Halves, halves, halves_of, encode, encode_count, encode_ran, encoded, encoded_run, step_told, shared_after, tell_step, Told, told, tell_answer, tell, put_line, put_top_line, row_at, lines_after, script_numbers, read_as, encode_script}

-- ---- two halves
pub joined_is : (a b : ℕ) → b < 4294967296 → halves_of (4294967296 * a + b) ≡ halves a b
unfolding halves_of
joined_is a b h =
    let upper : (4294967296 * a + b) / 4294967296 ≡ a = omega arith in
    let lower : (4294967296 * a + b) % 4294967296 ≡ b = omega arith in
    rw (upper, lower)

pub none_is : halves_of 0 ≡ halves 0 0
unfolding halves_of
none_is = refl

-- ---- an answer
by_code : (r : Result Reply Refused) → halves (said_of r).code (said_of r).number ≡ encode (means r)
by_code (Ok (Node n)) = refl
by_code (Ok Out) = refl
by_code (Ok On) = refl
by_code (Ok (Wait n first end)) = refl
by_code (Ok Held) = refl
by_code (Ok Back) = refl
by_code (Err why) = refl

pub encoded_by : (r : Result Reply Refused) (s : Said) (h : Halves) → h ≡ halves s.code s.number → s ≡ said_of r → h ≡ encode (means r)
encoded_by r s h e p = e ∙ rw p (by_code r)

pub encoded_is : (d : Done Answer) (r : Result Reply Refused) (t : Tables) (h : Halves) → h ≡ encode (means r) → done (means r) t ≡ d → done h t ≡ encoded d
encoded_is d r t h p q = rw (p, ← q)

-- ---- a step's answer, and its two words
two_words : (l : List ℕ) (first end : ℕ) → length l ≡ 2 → set (set l 0 first) 1 end ≡ first ∷ end ∷ []
two_words [] first end e = absurd (omega arith)
two_words (x ∷ []) first end e = absurd (omega arith)
two_words (x ∷ y ∷ []) first end e = refl
two_words (x ∷ y ∷ z ∷ l) first end e = absurd (omega arith)

-- by the run that it is said with
module _ (l : List ℕ) where
  run_of_a_wait : (r : Result Reply Refused) (run : SharedRun) → (said_of r).run ≡ Some run → shared_after l (means r) ≡ run.first ∷ run.end ∷ []
  run_of_a_wait (Ok (Wait n first end)) run e = let same : record { first = first; end = end } ≡ run = cc in ap (λ (u : SharedRun). u.first ∷ u.end ∷ []) same
  run_of_a_wait (Ok (Node n)) run e = cc
  run_of_a_wait (Ok Out) run e = cc
  run_of_a_wait (Ok On) run e = cc
  run_of_a_wait (Ok Held) run e = cc
  run_of_a_wait (Ok Back) run e = cc
  run_of_a_wait (Err why) run e = cc

  kept_otherwise : (r : Result Reply Refused) → (said_of r).run ≡ None → shared_after l (means r) ≡ l
  kept_otherwise (Ok (Wait n first end)) e = cc
  kept_otherwise (Ok (Node n)) e = refl
  kept_otherwise (Ok Out) e = refl
  kept_otherwise (Ok On) e = refl
  kept_otherwise (Ok Held) e = refl
  kept_otherwise (Ok Back) e = refl
  kept_otherwise (Err why) e = refl

  module _ (r : Result Reply Refused) (s : Said) (is_said : s ≡ said_of r) where
    pub shared_stored : length l ≡ 2 → (run : SharedRun) → s.run ≡ Some run → set (set l 0 run.first) 1 run.end ≡ shared_after l (means r)
    shared_stored n run e = two_words l run.first run.end n ∙ sym (run_of_a_wait r run (rw is_said at e))

    pub shared_kept : s.run ≡ None → l ≡ shared_after l (means r)
    shared_kept e = sym (kept_otherwise r (rw is_said at e))

pub step_told_is : (d : Done Answer) (r : Result Reply Refused) (t : Tables) (l l' : List ℕ) (h : Halves) → h ≡ encode (means r) → l' ≡ shared_after l (means r) → done (means r) t ≡ d
    → step_told h l' t ≡ tell_step l d
step_told_is d r t l l' h e f q = rw (e, f, ← q)

-- ---- the other answers
pub count_is : (r : Result ℕ Refused) (k : ℕ) (h : Halves) → h ≡ halves 1 k → r ≡ Ok k → h ≡ encode_count (means_count r)
count_is r k h p q = rw (q, p)

pub count_refused_is : (r : Result ℕ Refused) (why : Refused) (h : Halves) → h ≡ halves 0 (number_of why) → r ≡ Err why → h ≡ encode_count (means_count r)
count_refused_is r why h p q = rw (q, p)

pub counted_is : (d : Counted) (r : Result ℕ Refused) (h : Halves) → h ≡ encode_count (means_count r) → means_count r ≡ d → h ≡ encode_count d
counted_is d r h p q = rw (p, q)

pub run_is : (d : Done Ran) (r : told_ran.Ran) (t : Tables) (h : Halves) → h ≡ encode_ran (means_run r) → done (means_run r) t ≡ d → done h t ≡ encoded_run d
run_is d r t h p q = rw (p, ← q)

-- the rows go beside what is told
tell_beside : (covered : ℕ) (a : Boarded) (rows : List ℕ) → told (tell_answer covered a []).number (tell_answer covered a []).covered rows ≡ tell_answer covered a rows
unfolding tell_answer
tell_beside covered (Boarded.filled count frames) rows = refl
tell_beside covered (Boarded.refused number) rows = refl

pub board_told_is : (d : Shown ℕ) (r : Result Filled Refused) (rows : List ℕ) (before after : ℕ) (h : Halves) → told h after [] ≡ tell_answer before (means_board r) [] → shown (means_board r) rows ≡ d
    → told h after rows ≡ tell before d
board_told_is d r rows before after h e q =
    rw (← q)
    (ap (λ (x : Told). told x.number x.covered rows) e ∙ tell_beside before (means_board r) rows)

-- ---- script reading
lines_more : (l : List ℕ) (rows : List Line) (n : ℕ) → lines_after (n + 1) l rows ≡ put_line (lines_after n l rows) (row_at n) (get_or rows n no_line)
unfolding lines_after
lines_more l rows n = rw (add-one n)

pub lines_none : (l : List ℕ) (rows : List Line) → l ≡ lines_after 0 l rows
unfolding lines_after
lines_none l rows = refl

pub lines_again : (l m m' : List ℕ) (rows : List Line) (n : ℕ) (line : Line) → m ≡ lines_after n l rows → m' ≡ put_line m (row_at n) line → line ≡ get_or rows n no_line → m' ≡ lines_after (n + 1) l rows
lines_again l m m' rows n line p q e = q ∙ rw (p, e) (sym (lines_more l rows n))

pub lines_done : (l m : List ℕ) (rows : List Line) (n : ℕ) → m ≡ lines_after n l rows → 1000 ≤ n → n ≤ 1000 → m ≡ lines_after 1000 l rows
lines_done l m rows n p h i = let e : n ≡ 1000 = omega arith in rw e at p

module _ (lent : List ℕ) where
  pub script_is : (script : read_into.Script) (m : List ℕ) → m ≡ lines_after 1000 (set (set (set (set lent 0 script.n) 1 script.s) 2 script.k) 3 script.title) script.rows
      → m ≡ script_numbers (means_script (Ok script)) lent
  unfolding script_numbers put_top_line
  script_is script m p = p

  pub read_good : (script : read_into.Script) (read : Script) (m : List ℕ) → m ≡ script_numbers (means_script (Ok script)) lent → means_script (Ok script) ≡ read
      → read_as (halves_of 0) m ≡ encode_script read lent
  unfolding encode_script
  read_good script read m p q = rw (← q, none_is) (ap (read_as (halves 0 0)) p)

  pub read_bad : (wrong : Wrong) (read : Script) (h : Halves) → h ≡ halves 10 wrong.line → means_script (Err wrong) ≡ read → read_as h lent ≡ encode_script read lent
  unfolding encode_script bad_at
  read_bad wrong read h p q = rw (← q, p)

put_line_length : (l : List ℕ) (at : ℕ) (line : Line) → length (put_line l at line) ≡ length l
unfolding put_line
put_line_length l at line = simp length-set

pub lines_length : (n : ℕ) (l : List ℕ) (rows : List Line) → length (lines_after n l rows) ≡ length l
unfolding lines_after
lines_length zero l rows = refl
lines_length (suc n) l rows = put_line_length (lines_after n l rows) (row_at n) (get_or rows n no_line) ∙ lines_length n l rows

pub top_length : (l : List ℕ) (a b c d : ℕ) → length (put_top_line l a b c d) ≡ length l
unfolding put_top_line
top_length l a b c d = simp length-set

pub script_length : (l m : List ℕ) (rows : List Line) (a b c d : ℕ) → m ≡ lines_after 1000 (put_top_line l a b c d) rows → length m ≡ length l
script_length l m rows a b c d p = ap length p ∙ lines_length 1000 (put_top_line l a b c d) rows ∙ top_length l a b c d
