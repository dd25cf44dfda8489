-- The invariant that every call keeps, over the view: a named field for each clause. N is the number of nodes.
use mathlib.Core.Path.{◌≡◌}
use mathlib.Core.Logic.{◌≢◌, ◌⊎◌}
use Prim.Native.Nat.{ℕ, ◌≤◌, ◌<◌}
use Rattle.rules.specs.Comparison.{Claim}
use Rattle.rules.specs.Refusing.{Proper}
use Rattle.rules.proofs.Ground.Following.{Ends}
use Rattle.rules.specs.Reach.{Reach}
use Rattle.rules.proofs.Laws.Compared.{Precedes}
use Rattle.rules.proofs.Invariant.View.{Nodes, Seats, claim_at, Unmarked, Outside, Linked}
use Rattle.rules.proofs.Laws.Shape.{Resting}

-- ---- sound shape, as far as the view shows it
-- "nonzero .. names a node of kind 1 or 2"
pub data Named (N : ℕ) (claims : ℕ → Claim) (a : ℕ) : Type 0 where
  nothing : a ≡ 0 → Named N claims a
  node : 0 < a → a ≤ N → Proper (claims a) → Named N claims a

pub record Blank (n : Nodes) (a : ℕ) : Type 0 where
  pub start_0 : n.start a ≡ 0
  pub end_0 : n.end a ≡ 0
  pub kind_0 : n.kind a ≡ 0
  pub mark_0 : n.mark a ≡ 0
  pub link_0 : n.link a ≡ 0

pub record NodeShape (N : ℕ) (n : Nodes) : Type 0 where
  pub head_unmarked : n.mark 0 ≡ 0
  pub blank_or_proper : (a : ℕ) → 0 < a → Blank n a ⊎ Proper (claim_at n a)
  pub marks : (a : ℕ) → n.mark a ≤ 1
  pub links : (a : ℕ) → Named N (claim_at n) (n.link a)

-- of a seat with phase P, own O, prev Q and cur C; that an idle one has only zeros is known of all its words, beside the view
pub record SeatShape (N : ℕ) (claims : ℕ → Claim) (P O Q C : ℕ) : Type 0 where
  pub has_phase : P ≤ 7
  pub owning : P ≢ 0 → 0 < O
  pub resting : Resting P → (Q ≡ 0) × (C ≡ 0)
  pub at_cur : (P ≡ 2) ⊎ (P ≡ 4) → 0 < C
  pub own_named : Named N claims O
  pub prev_named : Named N claims Q
  pub cur_named : Named N claims C

-- ---- the list, and what is seen: the nodes that some walk may still come to
abbrev pub OnList : (ℕ → ℕ) → ℕ → Type 0
OnList link a = Reach link a (link 0)

pub data Seen (link : ℕ → ℕ) (s : Seats) (a : ℕ) : Type 0 where
  from_head : OnList link a → Seen link s a
  from_prev : (j : ℕ) → Reach link a (s.prev j) → Seen link s a
  from_cur : (j : ℕ) → Reach link a (s.cur j) → Seen link s a

abbrev pub Ending : (ℕ → ℕ) → ℕ → Type 0
Ending link a = (k : ℕ) × Ends link a k

-- c does not start later than d and, if c writes, it ends before d starts. Unlike `Precedes` this can be followed from node to node,
-- which taking a node out needs
pub record Ordered (c d : Claim) : Type 0 where
  pub starts : c.start ≤ d.start
  pub writer_ends : c.kind ≡ 2 → c.end ≤ d.start

-- ---- what is known of a claim by its phase
pub record Private (n : Nodes) (a : ℕ) : Type 0 where
  pub unmarked : Unmarked n a
  pub last : n.link a ≡ 0

pub record Standing (n : Nodes) (a : ℕ) : Type 0 where
  pub unmarked : Unmarked n a
  pub on_list : OnList n.link a

-- why a seat waits: at a claim that clashes with its own, and as a reader at a writer that starts within it
pub record Stuck (P : ℕ) (c o : Claim) : Type 0 where
  pub at_2 : P ≡ 2 → (Precedes c o → ⊥) × (Precedes o c → ⊥)
  pub at_4 : P ≡ 4 → (o.kind ≡ 1) × (c.kind ≢ 1) × (c.start < o.end)

-- the seat of a standing claim
pub record Owner (s : Seats) (a : ℕ) : Type 0 where
  pub seat : ℕ
  pub linked : Linked (s.phase seat)
  pub owns : s.own seat ≡ a

-- of a reader's seat g and a writer's seat w: one of the two has yet to come to the other
pub data Ahead (link : ℕ → ℕ) (s : Seats) (g w : ℕ) : Type 0 where
  reader_comes : s.phase g ≢ 5 → Reach link (s.own w) (s.cur g) → Ahead link s g w
  writer_comes : s.phase w ≢ 5 → Reach link (s.own g) (s.cur w) → Ahead link s g w

pub record Invariant (N : ℕ) (n : Nodes) (s : Seats) : Type 0 where
  -- no call is refused 1
  pub nodes : NodeShape N n
  pub seats : (i : ℕ) → SeatShape N (claim_at n) (s.phase i) (s.own i) (s.prev i) (s.cur i)
  -- what one seat does to its own node is not done to another's; a withdrawn seat's node counts, since the seat still reads its claim
  pub distinct : (i j : ℕ) → i ≢ j → s.phase i ≢ 0 → s.phase j ≢ 0 → s.own i ≢ s.own j
  -- a claim that is not on the list hangs on nothing, so that linking it in adds one node and no more
  pub outside : (i : ℕ) → Outside (s.phase i) → Private n (s.own i)
  -- a linked claim stays on the list, unmarked, as long as its seat has it
  pub linked : (i : ℕ) → Linked (s.phase i) → Standing n (s.own i)
  -- and nothing else stands there: whoever waits, waits at a claim that some seat can give up
  pub owner : {a : ℕ} → OnList n.link a → Unmarked n a → Owner s a
  -- a walk that has strayed among removed nodes finds only marked ones before it is back on the list
  pub seen_listed : {a : ℕ} → Seen n.link s a → Unmarked n a → OnList n.link a
  pub ordered : {a : ℕ} → Seen n.link s a → 0 < n.link a → Ordered (claim_at n a) (claim_at n (n.link a))
  pub ends : {a : ℕ} → Seen n.link s a → Ending n.link a
  -- what a walk has passed lies before its claim, so that linking in behind prev keeps the order
  pub passed : (i : ℕ) → Outside (s.phase i) → 0 < s.prev i → Precedes (claim_at n (s.prev i)) (claim_at n (s.own i))
  pub stuck : (i : ℕ) → Stuck (s.phase i) (claim_at n (s.cur i)) (claim_at n (s.own i))
  -- a reader looks at what starts no earlier than itself
  pub reader_cur : (i : ℕ) → Linked (s.phase i) → n.kind (s.own i) ≡ 1 → 0 < s.cur i → n.start (s.own i) ≤ n.start (s.cur i)
  -- a reader and a writer that starts within it do not both hold: one has yet to come to the other
  pub unsettled : (g w : ℕ) → Linked (s.phase g) → Linked (s.phase w) → n.kind (s.own g) ≡ 1 → n.kind (s.own w) ≡ 2
      → n.start (s.own g) ≤ n.start (s.own w) → n.start (s.own w) < n.end (s.own g) → Ahead n.link s g w
