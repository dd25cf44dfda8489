-- The words in which demand 3 is stated: steps of one seat alone, the cause of a wait, and how a claim settles. proofs/Cause.antt says with
-- them that nobody waits without cause.
use Rattle.std.specs.Prelude.{ℕ, zero, suc, ◌<◌, ◌≡◌, ◌≢◌, ◌⊎◌}
use Rattle.rules.specs.Tables.{Tables, seat_count, phase, own}
use Rattle.rules.specs.Comparison.{claim_of}
use Rattle.rules.specs.Answers.{Answer, held, wait, refused, done}
use Rattle.rules.specs.Calls.{step}
use Rattle.rules.specs.Refusing.{NoNodeFree}
use Rattle.rules.specs.Apart.{claim_of_seat, Holds, LinkedIn, Stands}
use Rattle.rules.specs.Shared.{WholeShared}
use Rattle.rules.specs.Run.{Ran}

-- ---- steps of one seat with no other call between
unfoldable pub step_times : ℕ → Tables → ℕ → Tables
step_times zero t s = t
step_times (suc k) t s = step_times k (step t s).after s

-- how a run of k such steps ends: all are taken, or it stops at one refused 8
pub data RunEnds (k : ℕ) (r : Ran) : Type 0 where
  all_stepped : r.steps ≡ k → r.refusal ≡ 0 → RunEnds k r
  stopped_at_8 : r.refusal ≡ 8 → r.steps < k → RunEnds k r

-- why seat s waits at node n for the frames from first up to but not including end: the claim at n stands, is another seat's, and one of the two
-- writes; the frames are some, and all that both cover
pub record Cause (t : Tables) (s n first end : ℕ) : Type 0 where
  pub seat : ℕ
  pub is_seat : seat < seat_count t
  pub other : seat ≢ s
  pub theirs : own t seat ≡ n
  pub linked_in : LinkedIn t seat
  pub stands : Stands t n
  pub some_frame : first < end
  pub whole : WholeShared (claim_of t n) (claim_of_seat t s) first end
  pub one_writes : ((claim_of t n).kind ≡ 2) ⊎ ((claim_of_seat t s).kind ≡ 2)

-- how it stands with a claim that need not be stepped on, and what a step answers, which changes nothing: it holds, it waits with cause,
-- or no node is free for it
pub data Settled (t : Tables) (s : ℕ) : Type 0 where
  holds : Holds t s → step t s ≡ done held t → Settled t s
  waits : (n first end : ℕ) → step t s ≡ done (wait n first end) t → Cause t s n first end → Settled t s
  no_node : step t s ≡ done (refused 8) t → phase t s ≡ 6 → NoNodeFree t s → Settled t s

-- what a step of such a claim told the worker, and how the tables then are
pub data Told (s : ℕ) (answer : Answer) (t : Tables) : Type 0 where
  told_held : answer ≡ held → Holds t s → Told s answer t
  told_wait : (n first end : ℕ) → answer ≡ wait n first end → Cause t s n first end → Told s answer t
  told_8 : answer ≡ refused 8 → phase t s ≡ 6 → NoNodeFree t s → Told s answer t
