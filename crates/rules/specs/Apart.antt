-- The words in which demand 2 is stated: what holders cover, what stands on the list, what a call may touch, what a run is. proofs/Apart.antt
-- says with them that claims are kept apart and nothing is dropped.
use Rattle.std.specs.Prelude.{ℕ, ◌≤◌, ◌<◌, ◌≡◌, true, false, List, [], ◌∷◌, ◌++◌, map, ◌≢◌, ◌⊎◌, length, take, drop}
use Rattle.rules.specs.Tables.{Tables, head_at, before_nodes, top_word, seat_count, seat_width, seat_word, mark, marked, link, phase, own}
use Rattle.rules.specs.Comparison.{Claim, claim_of}
use Rattle.rules.specs.Reach.{listed}
use Rattle.rules.specs.Answers.{out, back, refused, Done}
use Rattle.rules.specs.Calls.{step, release}
use Rattle.rules.specs.Run.{refusal_of, run}
use Rattle.rules.specs.Play.{Call, step_call, release_call, call, after_all}
use Rattle.rules.specs.Reached.{Request, single, running}
use Rattle.rules.specs.Run.{Ran}

-- ---- claims
-- "A claim covers frames start up to but not including end"
abbrev pub Covers : Claim → ℕ → Type 0
Covers c f = (c.start ≤ f) × (f < c.end)

abbrev pub claim_of_seat : Tables → ℕ → Claim
claim_of_seat t s = claim_of t (own t s)

abbrev pub Holds : Tables → ℕ → Type 0
Holds t s = phase t s ≡ 5

-- the seat's claim is linked in: it validates, waits as a reader, or holds
abbrev pub LinkedIn : Tables → ℕ → Type 0
LinkedIn t s = (3 ≤ phase t s) × (phase t s ≤ 5)

-- ---- the list
-- a node on the list that is neither released nor withdrawn
abbrev pub Stands : Tables → ℕ → Type 0
Stands t a = (listed t a ≡ true) × (marked t a ≡ false)

-- the node is that of one seat, whose claim is linked in, and of no other seat that has a claim
pub record OfOneSeat (t : Tables) (a : ℕ) : Type 0 where
  pub seat : ℕ
  pub is_seat : seat < seat_count t
  pub linked_in : LinkedIn t seat
  pub owns : own t seat ≡ a
  pub no_other : (r : ℕ) → phase t r ≢ 0 → own t r ≡ a → r ≡ seat

-- of each two neighbours the first stands so to the second
pub data Neighbours (so : ℕ → ℕ → Type 0) : List ℕ → Type 0 where
  none : Neighbours so []
  one : {a : ℕ} → Neighbours so (a ∷ [])
  more : {a b : ℕ} {rest : List ℕ} → so a b → Neighbours so (b ∷ rest) → Neighbours so (a ∷ b ∷ rest)

-- the second has no lower key
abbrev pub Rising : (ℕ → ℕ) → List ℕ → Type 0
Rising key = Neighbours (λ a b. key a ≤ key b)

-- ---- what a call may touch
-- u has its profile and every word of every seat but s from t
pub record OtherSeatsKept (s : ℕ) (t u : Tables) : Type 0 where
  pub same_profile : u.sheet ≡ t.sheet
  pub word : (r f : ℕ) → r ≢ s → f < seat_width t.sheet → seat_word u.sheet u.seats r f ≡ seat_word t.sheet t.seats r f
  pub same_length : length u.seats ≡ length t.seats

-- u has its profile and every word of the nodes from t, but for the links of these nodes (0: the head), the marks of these, the claims of these, and the
-- words at these places before node 1, the head's apart
pub record NodesKept (links marks claims places : ℕ → Type 0) (t u : Tables) : Type 0 where
  pub same_profile : u.sheet ≡ t.sheet
  pub link_of : (a : ℕ) → (links a → ⊥) → link u a ≡ link t a
  pub mark_of : (a : ℕ) → (marks a → ⊥) → mark u a ≡ mark t a
  pub claim_kept : (a : ℕ) → (claims a → ⊥) → claim_of u a ≡ claim_of t a
  pub word_at : (i : ℕ) → i < before_nodes t.sheet → i ≢ head_at → (places i → ⊥) → top_word u.nodes i ≡ top_word t.nodes i
  pub same_length : length u.nodes ≡ length t.nodes

abbrev pub NoNode : ℕ → Type 0
NoNode a = ⊥

abbrev pub NoPlace : ℕ → Type 0
NoPlace i = ⊥

-- of a fetch for seat s: the node taken, which is then the seat's own; and the links of the head and of the claims that stand, since
-- marked nodes may have been taken out first
abbrev pub FetchKept : ℕ → Tables → Tables → Type 0
FetchKept s t u = NodesKept (λ a. (a ≡ own u s) ⊎ ((a ≡ 0) ⊎ Stands t a)) (λ a. a ≡ own u s) (λ a. a ≡ own u s) NoPlace t u

-- ---- a run is its steps
-- the first k entries of a schedule, each as a call of its own
abbrev pub steps_of : List ℕ → ℕ → List Call
steps_of schedule k = map step_call (take k schedule)

-- each of these entries is accepted, one after the other
pub data AllAccepted : Tables → List ℕ → Type 0 where
  no_more : {t : Tables} → AllAccepted t []
  one_more : {t : Tables} {s : ℕ} {rest : List ℕ} → refusal_of (step t s).answer ≡ 0 → AllAccepted (step t s).after rest → AllAccepted t (s ∷ rest)

-- the count of a run is that of the entries stepped, all accepted, and its tables are those after these steps
pub record IsItsSteps (t : Tables) (schedule : List ℕ) (budget : ℕ) (r : Done Ran) : Type 0 where
  pub within_schedule : r.answer.steps ≤ length schedule
  pub within_budget : r.answer.steps ≤ budget
  pub tables_after : r.after ≡ after_all t (steps_of schedule r.answer.steps)
  pub accepted : AllAccepted t (take r.answer.steps schedule)

-- "stops at the end, when the budget is used, or at the first refused entry", and gives "the refusal met or 0"
pub data Stops (schedule : List ℕ) (budget : ℕ) (r : Done Ran) : Type 0 where
  at_the_end : r.answer.steps ≡ length schedule → r.answer.refusal ≡ 0 → Stops schedule budget r
  budget_used : r.answer.steps ≡ budget → r.answer.refusal ≡ 0 → Stops schedule budget r
  at_a_refusal : (s : ℕ) (rest : List ℕ) → drop r.answer.steps schedule ≡ s ∷ rest → r.answer.steps < budget
      → (step r.after s).answer ≡ refused r.answer.refusal → Stops schedule budget r

-- ---- a claim is given up
-- by this call: an accepted release of seat s, or a step of it answered `back`
pub data GivesUp (s : ℕ) (t : Tables) : Call → Type 0 where
  released : (release t s).answer ≡ out → GivesUp s t (release_call s)
  withdrawn : (step t s).answer ≡ back → GivesUp s t (step_call s)

-- by one of these calls, made one after the other
pub data GivenUp (s : ℕ) : Tables → List Call → Type 0 where
  now : {t : Tables} {c : Call} {rest : List Call} → GivesUp s t c → GivenUp s t (c ∷ rest)
  later : {t : Tables} {c : Call} {rest : List Call} → GivenUp s (call t c).after rest → GivenUp s t (c ∷ rest)

-- the single calls that requests come to: a run is the steps that it took
unfoldable pub calls_made : Tables → List Request → List Call
calls_made t [] = []
calls_made t (single c ∷ rest) = c ∷ calls_made (call t c).after rest
calls_made t (running schedule budget ∷ rest) =
    steps_of schedule (run t schedule budget).answer.steps ++ calls_made (run t schedule budget).after rest

-- in u seat s still has the claim that it has in t: the same frames and kind, on the same node, which stands
pub record StillStands (s : ℕ) (t u : Tables) : Type 0 where
  pub same_node : own u s ≡ own t s
  pub same_claim : claim_of_seat u s ≡ claim_of_seat t s
  pub linked_in : LinkedIn u s
  pub stands : Stands u (own t s)
