-- Request (v) of document 02: which frames clash. What the run that two claims share is, that the comparison gives 0 exactly where it is some frame and
-- one of the two writes, and what a step that answers `wait` tells. Of any claims and any tables unless more is said. Nothing else stands here: the
-- words are those of specs/Shared.antt, and each proof is a citation. Why whoever waits does is demand 3's, in Cause.
use Prim.Native.Nat.{ℕ, ◌<◌}
use mathlib.Core.Path.{◌≡◌}
use mathlib.Core.Bool.{true}
use mathlib.Core.Logic.{◌≢◌}
use lib.IntN.{pos}
use Rattle.rules.specs.Tables.{Tables, seat_count, mark, phase, cur, set_phase}
use Rattle.rules.specs.Comparison.{Claim, claim_of, compare, shared_run, shared}
use Rattle.rules.specs.Shape.{sound}
use Rattle.rules.specs.Answers.{wait, done}
use Rattle.rules.specs.Calls.{step}
use Rattle.rules.specs.Reached.{Reached}
use Rattle.rules.specs.Refusing.{Proper}
use Rattle.rules.specs.Apart.{Covers, claim_of_seat}
use Rattle.rules.specs.Shared.{WholeShared, NoneShared, Clash}
use Rattle.rules.proofs.Laws.SharedRuns as runs
use Rattle.rules.proofs.Waiting.WaitTells as tells
use Rattle.rules.proofs.Waiting.EveryWait.{wait_caused}

-- ---- "The pair is the whole of what both claims cover"
pub whole : (c o : Claim) → WholeShared c o (shared c o).first (shared c o).end
whole = runs.shared_whole

-- it is not empty where both cover a frame, and no other pair is then the whole
pub some_frame : (c o : Claim) (frame : ℕ) → Covers c frame → Covers o frame → (shared c o).first < (shared c o).end
some_frame = runs.shared_some

pub no_other_pair : (c o : Claim) (first end : ℕ) → first < end → WholeShared c o first end → (first ≡ (shared c o).first) × (end ≡ (shared c o).end)
no_other_pair = runs.shared_only

-- and it is 0 and 0 where they share no frame
pub none : (c o : Claim) → NoneShared c o → shared c o ≡ shared_run 0 0
none = runs.shared_none

-- ---- "The comparison shall give, when it gives 0, the first shared frame and the end of the shared run": where it gives 0 there are such frames, of
-- claims as reserve takes them; and nowhere else do two claims clash
pub zero_is_a_clash : {c o : Claim} → Proper c → Proper o → compare c o ≡ pos 0 → Clash c o
zero_is_a_clash = runs.zero_clashes

pub a_clash_is_zero : {c o : Claim} → Clash c o → compare c o ≡ pos 0
a_clash_is_zero = runs.clash_zero

-- who walks and finds an unmarked claim where it gives 0 is told the two numbers, and begins to wait
pub clash_is_told : (t : Tables) (s : ℕ) → sound t ≡ true → s < seat_count t → phase t s ≡ 1 → cur t s ≢ 0 → mark t (cur t s) ≢ 1
    → compare (claim_of t (cur t s)) (claim_of_seat t s) ≡ pos 0
    → step t s ≡ done (wait (cur t s) (shared (claim_of t (cur t s)) (claim_of_seat t s)).first (shared (claim_of t (cur t s)) (claim_of_seat t s)).end) (set_phase t s 2)
clash_is_told = tells.clash_told

-- ---- "`wait` carries both": whatever the tables and the phase, the node is the one that the seat then waits at, and the frames are the whole of what
-- the claim there and its own cover
pub at_the_node : (t : Tables) (s n first end : ℕ) → (step t s).answer ≡ wait n first end → cur (step t s).after s ≡ n
at_the_node t s n first end = tells.at_node n first end t s

pub wait_names_the_whole : (t : Tables) (s n first end : ℕ) → (step t s).answer ≡ wait n first end
    → WholeShared (claim_of (step t s).after n) (claim_of_seat (step t s).after s) first end
wait_names_the_whole t s n first end = tells.told_whole n first end t s

-- they stood there before the step too, at the same node: a step that answers `wait` changes no claim and leaves its seat where it was
pub so_it_was_before : (t : Tables) (s n first end : ℕ) → (step t s).answer ≡ wait n first end
    → (cur t s ≡ n) × WholeShared (claim_of t n) (claim_of_seat t s) first end
so_it_was_before t s n first end e = (tells.at_node_before n first end t s e, tells.told_whole_before n first end t s e)

-- "where, in any sound table, the claim waited at shares no frame, both are 0"
pub wait_for_no_frame : (t : Tables) (s n first end : ℕ) → (step t s).answer ≡ wait n first end
    → NoneShared (claim_of (step t s).after n) (claim_of_seat (step t s).after s) → (first ≡ 0) × (end ≡ 0)
wait_for_no_frame t s n first end = tells.told_none n first end t s

-- "never empty in tables reached from a fresh one"
pub never_empty : {N S : ℕ} {t : Tables} → Reached N S t → (s n first end : ℕ) → (step t s).answer ≡ wait n first end → first < end
never_empty r s n first end e = (wait_caused r s n first end e).some_frame
