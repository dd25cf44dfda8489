-- Demand 2: claims are kept apart, the list keeps its order and nothing is dropped. Of every table that is reached from a fresh one by any
-- calls in any order with any numbers; what a call may touch is said of any tables. Nothing else stands here: the words are those of
-- specs/Apart.antt, and each proof is a citation.
use Prim.Native.Nat.{ℕ}
use mathlib.Core.Path.{◌≡◌}
use mathlib.Core.Bool.{true}
use mathlib.Core.List.{List}
use mathlib.Core.Logic.{◌≢◌, ◌⊎◌}
use Rattle.rules.specs.Tables.{Tables, count_at, start, phase, own, prev}
use Rattle.rules.specs.Comparison.{Claim, claim_of}
use Rattle.rules.specs.Shape.{sound}
use Rattle.rules.specs.Reach.{list_of}
use Rattle.rules.specs.Answers.{refused}
use Rattle.rules.specs.Steps.{kind_of}
use Rattle.rules.specs.Calls.{reserve, enter, step, release}
use Rattle.rules.specs.Run.{run}
use Rattle.rules.specs.Play.{Call, call, after_all, seat_of}
use Rattle.rules.specs.Reached.{Request, after_request, after_requests, Reached, asked}
use Rattle.rules.specs.Apart.{Covers, claim_of_seat, Holds, LinkedIn, Stands, OfOneSeat, Rising, OtherSeatsKept, NodesKept, FetchKept, NoNode, NoPlace, steps_of, IsItsSteps, Stops, GivesUp, GivenUp, calls_made, StillStands}
use Rattle.rules.proofs.Keeping.CallKeeps.{good}
use Rattle.rules.proofs.Holding.Exclusion.{both_read_law}
use Rattle.rules.proofs.Holding.ListOrder.{rising}
use Rattle.rules.proofs.Holding.NothingDropped.{kept_by_requests, stands_until}
use Rattle.rules.proofs.Holding.Standing.{linked_in_stands, different_nodes, of_one_seat}
use Rattle.rules.proofs.Laws.RunSteps.{run_is_its_steps, sound_run_stops, calls_reached}
use Rattle.rules.proofs.Soundness.SoundReached.{reached_sound}
use Rattle.rules.proofs.Soundness.Refusals.{sound_never_damaged, run_not_1}
use Rattle.rules.proofs.Frames.SeatFrames.{other_seats_kept}
use Rattle.rules.proofs.Frames.NodeFrames.{step_1_kept, step_2_kept, step_3_kept, step_4_kept, step_5_kept, step_6_kept, reserve_kept, release_kept}
use Rattle.rules.proofs.Frames.ClaimFrames as frames
use Rattle.rules.proofs.Frames.Entered.{enter_keeps_nodes, step_7_keeps_nodes}

-- ---- two seats that hold share a frame only if both read
pub apart : {N S : ℕ} {t : Tables} → Reached N S t → (i j frame : ℕ) → i ≢ j → Holds t i → Holds t j
    → Covers (claim_of_seat t i) frame → Covers (claim_of_seat t j) frame → ((claim_of_seat t i).kind ≡ 1) × ((claim_of_seat t j).kind ≡ 1)
apart r i j frame d hi hj ci cj = both_read_law (good r).inv i j frame d hi hj ci.0 ci.1 cj.0 cj.1

-- ---- the list is ordered by first frame
pub ordered : {N S : ℕ} {t : Tables} → Reached N S t → Rising (start t) (list_of t)
ordered r = rising (good r)

-- and stays so over every request
pub stays_ordered : {N S : ℕ} {t : Tables} → Reached N S t → (r : Request) → Rising (start (after_request t r)) (list_of (after_request t r))
stays_ordered r request = ordered (asked r request)

-- ---- a claim that is linked in stands on the list
pub linked_claims_stand : {N S : ℕ} {t : Tables} → Reached N S t → (s : ℕ) → LinkedIn t s → Stands t (own t s)
linked_claims_stand r = linked_in_stands (good r)

-- two seats with a claim have different nodes
pub nodes_differ : {N S : ℕ} {t : Tables} → Reached N S t → (i j : ℕ) → i ≢ j → phase t i ≢ 0 → phase t j ≢ 0 → own t i ≢ own t j
nodes_differ r = different_nodes (good r)

-- and nothing else stands there: each node that stands is that of one seat, whose claim is linked in
pub stands_for_one_seat : {N S : ℕ} {t : Tables} → Reached N S t → (a : ℕ) → Stands t a → OfOneSeat t a
stands_for_one_seat r = of_one_seat (good r)

-- ---- nothing is dropped: over any requests, in any number, a linked claim stands as it was, unless its seat gives it up in one of the calls
-- that they come to
pub nothing_dropped : {N S : ℕ} {t : Tables} → Reached N S t → (s : ℕ) → LinkedIn t s → (requests : List Request)
    → StillStands s t (after_requests t requests) ⊎ GivenUp s t (calls_made t requests)
nothing_dropped r = kept_by_requests (good r)

-- so a node that stands is taken off the list or marked by no call but that in which its seat gives it up
pub stands_until_given_up : {N S : ℕ} {t : Tables} → Reached N S t → (c : Call) (a : ℕ) → Stands t a
    → Stands (call t c).after a ⊎ ((s : ℕ) × (own t s ≡ a) × GivesUp s t c)
stands_until_given_up r = stands_until (good r)

-- ---- a run, in any tables: it is its steps
pub run_is_steps : (t : Tables) (schedule : List ℕ) (budget : ℕ) → IsItsSteps t schedule budget (run t schedule budget)
run_is_steps = run_is_its_steps

-- and, unless it is refused as a whole, it stops at the end, when the budget is used, or at the first refused entry
pub run_stops : (t : Tables) (schedule : List ℕ) (budget : ℕ) → sound t ≡ true → Stops schedule budget (run t schedule budget)
run_stops = sound_run_stops

-- between its steps every table is reached too
pub run_reaches : {N S : ℕ} {t : Tables} → Reached N S t → (schedule : List ℕ) (steps : ℕ) → Reached N S (after_all t (steps_of schedule steps))
run_reaches r schedule steps = calls_reached r (steps_of schedule steps)

-- ---- no table that is reached is damaged, so no call on one is refused 1
pub always_sound : {N S : ℕ} {t : Tables} → Reached N S t → sound t ≡ true
always_sound r = reached_sound r

pub never_damaged : {N S : ℕ} {t : Tables} → Reached N S t → (c : Call) → (call t c).answer ≢ refused 1
never_damaged {t = t} r = sound_never_damaged t (reached_sound r)

pub run_never_damaged : {N S : ℕ} {t : Tables} → Reached N S t → (schedule : List ℕ) (budget : ℕ) → (run t schedule budget).answer.refusal ≢ 1
run_never_damaged = run_not_1

-- ---- what a call may touch, in any tables
-- of the seats its own alone
pub touches_one_seat : (t : Tables) (c : Call) → OtherSeatsKept (seat_of c) t (call t c).after
touches_one_seat = other_seats_kept

-- of the nodes, by its rule: reserve, the node that it takes
pub reserve_touches : (t : Tables) (s : ℕ) (c : Claim) → FetchKept s t (reserve t s c).after
reserve_touches = reserve_kept

-- enter, none: it "touches its seat alone"
pub enter_touches : (t : Tables) (s : ℕ) → (enter t s).after.nodes ≡ t.nodes
enter_touches = enter_keeps_nodes

-- release, the mark of own and the count of its kind
pub release_touches : (t : Tables) (s : ℕ) → NodesKept NoNode (λ a. a ≡ own t s) NoNode (λ i. i ≡ count_at (kind_of t s)) t (release t s).after
release_touches = release_kept

-- a step, by its phase: the links of own and prev, where the claim is linked in or a marked node is unlinked; on a sheet the count of its kind, where it
-- comes to hold
pub walking_touches : (t : Tables) (s : ℕ) → phase t s ≡ 1
    → NodesKept (λ a. (a ≡ own t s) ⊎ (a ≡ prev t s)) NoNode NoNode (λ i. (t.sheet ≡ true) × (i ≡ count_at (kind_of t s))) t (step t s).after
walking_touches = step_1_kept

pub waiting_touches : (t : Tables) (s : ℕ) → phase t s ≡ 2 → NodesKept NoNode NoNode NoNode NoPlace t (step t s).after
waiting_touches = step_2_kept

-- the link of prev, where a marked node is unlinked; the mark of own, where the claim is withdrawn; the count of its kind, where it comes to hold
pub validating_touches : (t : Tables) (s : ℕ) → phase t s ≡ 3
    → NodesKept (λ a. a ≡ prev t s) (λ a. a ≡ own t s) NoNode (λ i. i ≡ count_at (kind_of t s)) t (step t s).after
validating_touches = step_3_kept

pub reader_waiting_touches : (t : Tables) (s : ℕ) → phase t s ≡ 4 → NodesKept NoNode NoNode NoNode NoPlace t (step t s).after
reader_waiting_touches = step_4_kept

pub holding_touches : (t : Tables) (s : ℕ) → phase t s ≡ 5 → (step t s).after ≡ t
holding_touches = step_5_kept

pub withdrawn_touches : (t : Tables) (s : ℕ) → phase t s ≡ 6 → FetchKept s t (step t s).after
withdrawn_touches = step_6_kept

pub entering_touches : (t : Tables) (s : ℕ) → phase t s ≡ 7 → (step t s).after.nodes ≡ t.nodes
entering_touches = step_7_keeps_nodes

-- no call changes a claim but that of the node it takes
pub claims_kept : (t : Tables) (c : Call) (a : ℕ) → a ≢ own (call t c).after (seat_of c) → claim_of (call t c).after a ≡ claim_of t a
claims_kept = frames.claims_kept

-- and that is no other seat's own, so every other seat keeps its claim
pub others_keep_claims : (t : Tables) (c : Call) (r : ℕ) → r ≢ seat_of c → claim_of_seat (call t c).after r ≡ claim_of_seat t r
others_keep_claims = frames.others_claims_kept
