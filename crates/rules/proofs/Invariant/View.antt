-- The tables as the theory sees them: functions of a node's or a seat's number, and the changes that are made to them. A word that
-- no rule of keeping apart looks at stays outside this view.
use mathlib.Core.Path.{◌≡◌}
use mathlib.Core.Logic.{◌≢◌}
use Prim.Native.Nat.{ℕ}
use Rattle.rules.specs.Tables as tables
use Rattle.rules.specs.Tables.{Tables}
use Rattle.rules.specs.Comparison.{Claim, claim}

pub record Nodes : Type 0 where
  pub start : ℕ → ℕ
  pub end : ℕ → ℕ
  pub kind : ℕ → ℕ
  pub mark : ℕ → ℕ
  pub link : ℕ → ℕ

pub record Seats : Type 0 where
  pub phase : ℕ → ℕ
  pub own : ℕ → ℕ
  pub prev : ℕ → ℕ
  pub cur : ℕ → ℕ

abbrev pub nodes_of : Tables → Nodes
nodes_of t = record { start = tables.start t; end = tables.end t; kind = tables.kind t; mark = tables.mark t; link = tables.link t }

abbrev pub seats_of : Tables → Seats
seats_of t = record { phase = tables.phase t; own = tables.own t; prev = tables.prev t; cur = tables.cur t }

abbrev pub claim_at : Nodes → ℕ → Claim
claim_at n a = claim (n.start a) (n.end a) (n.kind a)

abbrev pub Marked : Nodes → ℕ → Type 0
Marked n a = n.mark a ≡ 1

abbrev pub Unmarked : Nodes → ℕ → Type 0
Unmarked n a = n.mark a ≢ 1

-- ---- changes of the nodes: other links, other marks
abbrev pub relink : Nodes → (ℕ → ℕ) → Nodes
relink n link = record { start = n.start; end = n.end; kind = n.kind; mark = n.mark; link = link }

abbrev pub remark : Nodes → (ℕ → ℕ) → Nodes
remark n mark = record { start = n.start; end = n.end; kind = n.kind; mark = mark; link = n.link }

-- ---- the change of the seats: seat i gets phase P, own O, prev Q and cur C, and every other seat keeps its words
pub record Reseated (s u : Seats) (i P O Q C : ℕ) : Type 0 where
  pub phase_i : u.phase i ≡ P
  pub own_i : u.own i ≡ O
  pub prev_i : u.prev i ≡ Q
  pub cur_i : u.cur i ≡ C
  pub phase_j : (j : ℕ) → j ≢ i → u.phase j ≡ s.phase j
  pub own_j : (j : ℕ) → j ≢ i → u.own j ≡ s.own j
  pub prev_j : (j : ℕ) → j ≢ i → u.prev j ≡ s.prev j
  pub cur_j : (j : ℕ) → j ≢ i → u.cur j ≡ s.cur j

-- ---- the classes of phases
-- the claim is not on the list yet
pub data Outside (p : ℕ) : Type 0 where
  reserved : p ≡ 7 → Outside p
  walking : p ≡ 1 → Outside p
  waiting : p ≡ 2 → Outside p

-- the claim is on the list
pub data Linked (p : ℕ) : Type 0 where
  validating : p ≡ 3 → Linked p
  waiting_reader : p ≡ 4 → Linked p
  holding : p ≡ 5 → Linked p
