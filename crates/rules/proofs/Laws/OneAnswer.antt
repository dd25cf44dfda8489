-- Two results that meet one promise are equal: what every public call says of its own promise, as the checker reads that from the source,
-- and the laws by which it does. Each case of an enum means something else, so the enum can be read back from what it means.
use mathlib.Core.Path.{◌≡◌, refl, sym, ap, ◌∙◌}
use mathlib.Core.List.{List, [], ◌∷◌}
use Prim.Native.Nat.{ℕ}
use Rattle.std.specs.Prelude.{Option, Some, None, Result, Ok, Err, get_or, if◌then◌else◌}
use borrow.Fn.Kinds.{ParamKind, ResultKind, Out as Promise, Dens, res_t, ended_of}
use contract.Lifetimes.{Lfts}
use denote.Triple.Clauses.{AtExit}
use Rattle.rules.specs.Notation.{◌is◌}
use Rattle.rules.specs.Tables.{Tables}
use Rattle.rules.specs.Answers.{Answer, node, out, on, wait, held, back, refused, Done, done}
use Rattle.rules.specs.FreeCount.{Counted}
use Rattle.rules.specs.Board.{Boarded, Shown, shown}
use Rattle.rules.specs.Locks.{Listed, listed, moved}
use Rattle.rules.specs.Means.{number_of, number_or_0, means, means_count, means_board, means_run, means_done, means_script, means_moved}
use Rattle.rules.specs.Run as running
use Rattle.rules.specs.Script as reading
use Rattle.rules.specs.declared.Moved.{Moved}
use Rattle.rules.specs.declared.Refused.{Refused}
use Rattle.rules.specs.declared.Refused.TheVariants.{Damaged, NoSuchSeat, NoFrames, UnknownKind, HasClaim, HasNoClaim, NotHolding, NoNodeFree, NoRoom, NotWellFormed, BeyondTitle, NoSuchRun, UnknownType, NotReserved}
use Rattle.rules.specs.declared.Reply.{Reply}
use Rattle.rules.specs.declared.Reply.TheVariants.{Node, Out, On, Wait, Held, Back}
use Rattle.rules.specs.declared.Filled.{Filled}
use Rattle.rules.specs.declared.Ran.{Ran}
use Rattle.rules.specs.declared.Script.{Script}
use Rattle.rules.specs.declared.Wrong.{Wrong}
use Rattle.rules.specs.declared.BadRecord.{BadRecord}

-- on the same arguments, results that meet a promise are equal, and so is what they leave
abbrev pub Settles : {n : ℕ} (ps : List (ParamKind n)) (r : ResultKind n) {B : Type 0} → Promise n ps r → ((κs : Lfts n) → AtExit (ended_of n ps r) κs → B) → Type 0
Settles {n} ps r promise left =
    (κs : Lfts n) (args : Dens κs ps) (a b : (res_t r κs).Denot) (s t : AtExit (ended_of n ps r) κs) →
    promise κs args a s →
    promise κs args b t →
    (a ≡ b) × (left κs s ≡ left κs t)

-- of a call that changes nothing lent
abbrev pub SettlesAnswer : {n : ℕ} (ps : List (ParamKind n)) (r : ResultKind n) → Promise n ps r → Type 0
SettlesAnswer {n} ps r promise =
    (κs : Lfts n) (args : Dens κs ps) (a b : (res_t r κs).Denot) (s t : AtExit (ended_of n ps r) κs) →
    promise κs args a s →
    promise κs args b t →
    a ≡ b

-- two things that are equal to a third
pub one_value : {A : Type 0} {a b c : A} → a ≡ c → b ≡ c → a ≡ b
one_value p q = p ∙ sym q

-- the refusals by number; 0 is no refusal's
the_refused : List Refused
the_refused =
    Damaged ∷ Damaged ∷ NoSuchSeat ∷ NoFrames ∷ UnknownKind ∷ HasClaim ∷ HasNoClaim ∷ NotHolding ∷ NoNodeFree ∷ NoRoom ∷ NotWellFormed ∷ BeyondTitle ∷ NoSuchRun ∷ UnknownType ∷ NotReserved ∷ []

why_of : ℕ → Refused
why_of number = get_or the_refused number Damaged

why_back : (why : Refused) → why_of (number_of why) ≡ why
unfolding why_of the_refused
why_back Damaged = refl
why_back NoSuchSeat = refl
why_back NoFrames = refl
why_back UnknownKind = refl
why_back HasClaim = refl
why_back HasNoClaim = refl
why_back NotHolding = refl
why_back NoNodeFree = refl
why_back NoRoom = refl
why_back NotWellFormed = refl
why_back BeyondTitle = refl
why_back NoSuchRun = refl
why_back UnknownType = refl
why_back NotReserved = refl

-- the answer that means one of the rules
reply_of : Answer → Result Reply Refused
reply_of (node n) = Ok (Node n)
reply_of out = Ok Out
reply_of on = Ok On
reply_of (wait n first end) = Ok (Wait n first end)
reply_of held = Ok Held
reply_of back = Ok Back
reply_of (refused number) = Err (why_of number)

read_back : (r : Result Reply Refused) → reply_of (means r) ≡ r
unfolding reply_of
read_back (Ok (Node n)) = refl
read_back (Ok Out) = refl
read_back (Ok On) = refl
read_back (Ok (Wait n first end)) = refl
read_back (Ok Held) = refl
read_back (Ok Back) = refl
read_back (Err why) = let again : Refused → Result Reply Refused = λ w. Err w in ap again (why_back why)

count_of : Counted → Result ℕ Refused
count_of (Counted.counted n) = Ok n
count_of (Counted.refused number) = Err (why_of number)

count_back : (r : Result ℕ Refused) → count_of (means_count r) ≡ r
unfolding count_of
count_back (Ok n) = refl
count_back (Err why) = let again : Refused → Result ℕ Refused = λ w. Err w in ap again (why_back why)

board_of : Boarded → Result Filled Refused
board_of (Boarded.filled n covered) = Ok (record { rows = n; covered = covered })
board_of (Boarded.refused number) = Err (why_of number)

board_back : (r : Result Filled Refused) → board_of (means_board r) ≡ r
unfolding board_of
board_back (Ok all) = refl
board_back (Err why) = let again : Refused → Result Filled Refused = λ w. Err w in ap again (why_back why)

-- 0, or a refusal's number
met_of : ℕ → Option Refused
met_of number = if number is 0 then None else Some (why_of number)

met_back : (met : Option Refused) → met_of (number_or_0 met) ≡ met
unfolding met_of why_of the_refused
met_back None = refl
met_back (Some Damaged) = refl
met_back (Some NoSuchSeat) = refl
met_back (Some NoFrames) = refl
met_back (Some UnknownKind) = refl
met_back (Some HasClaim) = refl
met_back (Some HasNoClaim) = refl
met_back (Some NotHolding) = refl
met_back (Some NoNodeFree) = refl
met_back (Some NoRoom) = refl
met_back (Some NotWellFormed) = refl
met_back (Some BeyondTitle) = refl
met_back (Some NoSuchRun) = refl
met_back (Some UnknownType) = refl
met_back (Some NotReserved) = refl

run_of : running.Ran → Ran
run_of r = record { steps = r.steps; refusal = met_of r.refusal }

run_back : (r : Ran) → run_of (means_run r) ≡ r
unfolding run_of
run_back r = ap (λ (met : Option Refused). let back : Ran = record { steps = r.steps; refusal = met } in back) (met_back r.refusal)

done_of : ℕ → Result (Unit {0}) Refused
done_of number = if number is 0 then Ok tt else Err (why_of number)

done_back : (r : Result (Unit {0}) Refused) → done_of (means_done r) ≡ r
unfolding done_of why_of the_refused
done_back (Ok tt) = refl
done_back (Err Damaged) = refl
done_back (Err NoSuchSeat) = refl
done_back (Err NoFrames) = refl
done_back (Err UnknownKind) = refl
done_back (Err HasClaim) = refl
done_back (Err HasNoClaim) = refl
done_back (Err NotHolding) = refl
done_back (Err NoNodeFree) = refl
done_back (Err NoRoom) = refl
done_back (Err NotWellFormed) = refl
done_back (Err BeyondTitle) = refl
done_back (Err NoSuchRun) = refl
done_back (Err UnknownType) = refl
done_back (Err NotReserved) = refl

moved_of : Moved → Result (Unit {0}) BadRecord
moved_of m = if m.refusal is 0 then Ok tt else Err (record { why = why_of m.refusal; place = m.place })

bad_back : (why : Refused) (place : ℕ) → moved_of (moved (number_of why) place) ≡ Err (record { why = why; place = place })
unfolding moved_of why_of the_refused
bad_back Damaged place = refl
bad_back NoSuchSeat place = refl
bad_back NoFrames place = refl
bad_back UnknownKind place = refl
bad_back HasClaim place = refl
bad_back HasNoClaim place = refl
bad_back NotHolding place = refl
bad_back NoNodeFree place = refl
bad_back NoRoom place = refl
bad_back NotWellFormed place = refl
bad_back BeyondTitle place = refl
bad_back NoSuchRun place = refl
bad_back UnknownType place = refl
bad_back NotReserved place = refl

moved_back : (r : Result (Unit {0}) BadRecord) → moved_of (means_moved r) ≡ r
unfolding moved_of
moved_back (Ok tt) = refl
moved_back (Err bad) = bad_back bad.why bad.place

script_of : reading.Script → Result Script Wrong
script_of s =
    if s.refusal is 0 then Ok (record { n = s.n; s = s.s; k = s.k; title = s.title; rows = s.rows })
    else Err (record { line = s.wrong })

script_back : (r : Result Script Wrong) → script_of (means_script r) ≡ r
unfolding script_of reading.bad_at
script_back (Ok read) = refl
script_back (Err bad) = refl

-- ---- one result and one pair of tables
pub one_result : {A : Type 0} (promised : Done A) (a a' : A) (t t' : Tables) → done a t ≡ promised → done a' t' ≡ promised → (a ≡ a') × (t ≡ t')
one_result {A} promised a a' t t' p q =
    let e = p ∙ sym q in
    (ap (λ (d : Done A). d.answer) e, ap (λ (d : Done A). d.after) e)

pub one_reply : (promised : Done Answer) (r r' : Result Reply Refused) (t t' : Tables) → done (means r) t ≡ promised → done (means r') t' ≡ promised → (r ≡ r') × (t ≡ t')
one_reply promised r r' t t' p q =
    let w = one_result promised (means r) (means r') t t' p q in
    (sym (read_back r) ∙ ap reply_of w.0 ∙ read_back r', w.1)

pub one_run : (promised : Done running.Ran) (r r' : Ran) (t t' : Tables) → done (means_run r) t ≡ promised → done (means_run r') t' ≡ promised → (r ≡ r') × (t ≡ t')
one_run promised r r' t t' p q =
    let w = one_result promised (means_run r) (means_run r') t t' p q in
    (sym (run_back r) ∙ ap run_of w.0 ∙ run_back r', w.1)

-- of clear, which gives nothing back
pub one_done : (promised : Done ℕ) (r r' : Result (Unit {0}) Refused) (t t' : Tables) → done (means_done r) t ≡ promised → done (means_done r') t' ≡ promised → (r ≡ r') × (t ≡ t')
one_done promised r r' t t' p q =
    let w = one_result promised (means_done r) (means_done r') t t' p q in
    (sym (done_back r) ∙ ap done_of w.0 ∙ done_back r', w.1)

pub one_script : (promised : reading.Script) (r r' : Result Script Wrong) → means_script r ≡ promised → means_script r' ≡ promised → r ≡ r'
one_script promised r r' p q = sym (script_back r) ∙ ap script_of (p ∙ sym q) ∙ script_back r'

-- what a call leaves is the words of both tables: of which profile they are stands in the call's type
abbrev pub both : List ℕ → List ℕ → List ℕ × List ℕ
both nodes seats = (nodes, seats)

pub their_words : {A : Type 0} {a b : A} {t u : Tables} → (a ≡ b) × (t ≡ u) → (a ≡ b) × (both t.nodes t.seats ≡ both u.nodes u.seats)
their_words w = (w.0, ap (λ (v : Tables). both v.nodes v.seats) w.1)

pub one_count : (promised : Counted) (r r' : Result ℕ Refused) → means_count r ≡ promised → means_count r' ≡ promised → r ≡ r'
one_count promised r r' p q = sym (count_back r) ∙ ap count_of (p ∙ sym q) ∙ count_back r'

pub one_board : {A : Type 0} (promised : Shown A) (r r' : Result Filled Refused) (b b' : List A) → shown (means_board r) b ≡ promised → shown (means_board r') b' ≡ promised → (r ≡ r') × (b ≡ b')
one_board {A} promised r r' b b' p q =
    let e = p ∙ sym q in
    (sym (board_back r) ∙ ap (λ (x : Shown A). board_of x.answer) e ∙ board_back r', ap (λ (x : Shown A). x.board) e)

-- import and export: the answer, and the list that was lent for the output
pub one_list : {A : Type 0} (promised : Listed A) (a b : Moved) (m n : List A) → listed a m ≡ promised → listed b n ≡ promised → (a ≡ b) × (m ≡ n)
one_list {A} promised a b m n p q = let e = one_value p q in (ap (λ (x : Listed A). x.answer) e, ap (λ (x : Listed A). x.after) e)

pub one_record : {A : Type 0} (promised : Listed A) (a b : Result (Unit {0}) BadRecord) (m n : List A) → listed (means_moved a) m ≡ promised → listed (means_moved b) n ≡ promised → (a ≡ b) × (m ≡ n)
one_record {A} promised a b m n p q =
    let w = one_list promised (means_moved a) (means_moved b) m n p q in
    (sym (moved_back a) ∙ ap moved_of w.0 ∙ moved_back b, w.1)
