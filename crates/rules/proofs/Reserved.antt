-- Request (vii) of 02: a node is reserved when the worker connects. What reserve and enter leave, that a step in phase 7 enters, and what is known of a
-- reserved claim until it enters. What each may touch is said in Apart, where each is refused in Refusing. Nothing else stands here: the words are those
-- of specs/Reserved.antt, and each proof is a citation.
use Prim.Native.Nat.{ℕ}
use mathlib.Core.Path.{◌≡◌}
use mathlib.Core.Bool.{true, false}
use mathlib.Core.Logic.{◌≢◌}
use Rattle.rules.specs.Tables.{Tables, phase, own}
use Rattle.rules.specs.Comparison.{Claim}
use Rattle.rules.specs.Shape.{sound}
use Rattle.rules.specs.Reach.{listed}
use Rattle.rules.specs.Answers.{node, on, wait}
use Rattle.rules.specs.Calls.{reserve, enter, step}
use Rattle.rules.specs.Reached.{Reached}
use Rattle.rules.specs.Apart.{claim_of_seat}
use Rattle.rules.specs.Reserved.{HasReserved, HasEntered}
use Rattle.rules.proofs.Rules.Accepting.{step_enters}
use Rattle.rules.proofs.Frames.ClaimFrames.{taken_not_own}
use Rattle.rules.proofs.Frames.Entered as entered
use Rattle.rules.proofs.Keeping.CallKeeps.{good}
use Rattle.rules.proofs.Holding.ReservedClaims as claims
use Rattle.rules.proofs.Waiting.EveryWait.{wait_not_reserved}

-- ---- of any tables
-- "reserve takes a node for a range and kind and puts the seat in a new phase 7, prev and cur 0", "Reserve answers `node n`"
pub reserve_reserves : (t : Tables) (s n : ℕ) (c : Claim) → (reserve t s c).answer ≡ node n → HasReserved (reserve t s c).after s n c
reserve_reserves = claims.reserve_leaves

-- the node is no other seat's
pub nobody_has_it : (t : Tables) (s n : ℕ) (c : Claim) → (reserve t s c).answer ≡ node n → (r : ℕ) → r ≢ s → own t r ≢ n
nobody_has_it = taken_not_own

-- "phase 6 fetches, goes to 7 and answers `on`": with the claim that was withdrawn
pub withdrawn_reserves : (t : Tables) (s : ℕ) → phase t s ≡ 6 → (step t s).answer ≡ on → HasReserved (step t s).after s (own (step t s).after s) (claim_of_seat t s)
withdrawn_reserves = claims.refetch_leaves

-- "enter reads the head and goes to phase 1", "enter `on`"
pub enter_enters : (t : Tables) (s : ℕ) → (enter t s).answer ≡ on → HasEntered t (enter t s).after s
enter_enters = entered.enter_leaves

-- "a step in phase 7 enters"
pub step_is_enter : (t : Tables) (s : ℕ) → phase t s ≡ 7 → step t s ≡ enter t s
step_is_enter = step_enters

-- ---- of sound tables: who has reserved may enter, whenever it comes, however many nodes are free
pub may_enter : (t : Tables) (s : ℕ) → sound t ≡ true → phase t s ≡ 7 → (enter t s).answer ≡ on
may_enter = entered.may_enter

-- ---- of reached tables: a reserved claim is in nobody's way. It is not on the list, and nobody waits at its node
pub not_on_the_list : {N S : ℕ} {t : Tables} → Reached N S t → (s : ℕ) → phase t s ≡ 7 → listed t (own t s) ≡ false
not_on_the_list r = claims.reserved_off_list (good r)

pub nobody_waits_at_it : {N S : ℕ} {t : Tables} → Reached N S t → (s n first end : ℕ) → (step t s).answer ≡ wait n first end
    → (r : ℕ) → phase (step t s).after r ≡ 7 → own (step t s).after r ≢ n
nobody_waits_at_it = wait_not_reserved
