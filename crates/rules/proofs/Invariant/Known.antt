-- What the invariant says at once: of the nodes that are seen, of own nodes, and of the places a walk can go on to.
use mathlib.Core.Path.{◌≡◌, refl, sym, ap}
use mathlib.Core.Logic.{◌≢◌, ◌⊎◌, inl, inr}
use Prim.Native.Nat.{ℕ, ◌≤◌, ◌<◌}
use native.Mathlib.Omega.{arith}
use Rattle.rules.specs.Comparison.{Claim}
use Rattle.rules.proofs.Ground.Deciding.{if_same}
use Rattle.rules.proofs.Ground.Following.{reach_source, reach_target, reach_on, not_from_0, stop}
use Rattle.rules.specs.Reach.{Reach, here, there}
use Rattle.rules.proofs.Laws.Compared.{Precedes, apart, readers}
use Rattle.rules.proofs.Invariant.View.{Nodes, Seats, claim_at, Outside}
use Rattle.rules.proofs.Invariant.Phases.{outside_busy, linked_busy, not_both}
use Rattle.rules.proofs.Invariant.Clauses.{Named, nothing, node, NodeShape, Seen, from_head, from_prev, from_cur, Ending, Ordered, Invariant}
use Rattle.rules.specs.Refusing.{Proper}

-- ---- what is seen
pub seen_pos : {link : ℕ → ℕ} {s : Seats} {a : ℕ} → Seen link s a → 0 < a
seen_pos (from_head r) = reach_target r
seen_pos (from_prev j r) = reach_target r
seen_pos (from_cur j r) = reach_target r

pub seen_on : {link : ℕ → ℕ} {s : Seats} {a b : ℕ} → Seen link s a → Reach link b a → Seen link s b
seen_on (from_head q) r = from_head (reach_on q r)
seen_on (from_prev j q) r = from_prev j (reach_on q r)
seen_on (from_cur j q) r = from_cur j (reach_on q r)

-- ---- where a walk can be: at 0, or at a node that is seen
abbrev pub Known : (ℕ → ℕ) → Seats → ℕ → Type 0
Known link s a = (a ≡ 0) ⊎ Seen link s a

pub known_on : {link : ℕ → ℕ} {s : Seats} {a b : ℕ} → Known link s b → Reach link a b → Seen link s a
known_on (inl e) r = absurd (not_from_0 r e)
known_on (inr p) r = seen_on p r

pub known_head : {link : ℕ → ℕ} {s : Seats} → Known link s (link 0)
known_head {link} = if_same (link 0) 0 inl (λ k. inr (from_head (here (omega arith))))

pub known_cur : {link : ℕ → ℕ} {s : Seats} (i : ℕ) → Known link s (s.cur i)
known_cur {s = s} i = if_same (s.cur i) 0 inl (λ k. inr (from_cur i (here (omega arith))))

pub known_prev : {link : ℕ → ℕ} {s : Seats} (i : ℕ) → Known link s (s.prev i)
known_prev {s = s} i = if_same (s.prev i) 0 inl (λ k. inr (from_prev i (here (omega arith))))

pub known_next : {link : ℕ → ℕ} {s : Seats} {a : ℕ} → Seen link s a → Known link s (link a)
known_next {link} {a = a} p = if_same (link a) 0 inl (λ k. inr (seen_on p (there (seen_pos p) (here (omega arith)))))

-- the link of prev, which may be the head
pub known_link : {link : ℕ → ℕ} {s : Seats} (i : ℕ) → Known link s (link (s.prev i))
known_link {link} {s} i =
    if_same (s.prev i) 0
    (λ e. rw e known_head)
    (λ k. let h : 0 < s.prev i = omega arith in known_next (from_prev i (here h)))

-- ---- claims in use
pub named_proper : {N : ℕ} {claims : ℕ → Claim} {a : ℕ} → Named N claims a → 0 < a → Proper (claims a)
named_proper (nothing e) h = absurd (omega arith)
named_proper (node p l c) h = c

pub named_in : {N : ℕ} {claims : ℕ → Claim} {a : ℕ} → Named N claims a → a ≤ N
named_in (nothing e) = omega arith
named_in (node p l c) = l

reach_named : {N : ℕ} {n : Nodes} {a b : ℕ} → NodeShape N n → Named N (claim_at n) b → Reach n.link a b → Named N (claim_at n) a
reach_named sh d (here h) = d
reach_named sh d (there {a = b} h r) = reach_named sh (sh.links b) r

-- a proper claim that comes before another is ordered before it
pub precedes_ordered : {c o : Claim} → Proper c → Precedes c o → Ordered c o
precedes_ordered k (apart e) = let h = k.some in record { starts = omega arith; writer_ends = λ w. e }
precedes_ordered k (readers e f g) = record { starts = g; writer_ends = λ w. absurd (omega arith) }

-- ---- along a walk whose neighbours are in order, all are
pub record Along (claims : ℕ → Claim) (a b : ℕ) : Type 0 where
  pub starts : (claims a).start ≤ (claims b).start
  pub writer_ends : a ≢ b → (claims a).kind ≡ 2 → (claims a).end ≤ (claims b).start

pub along : {link : ℕ → ℕ} (claims : ℕ → Claim) {b a : ℕ} → ((x : ℕ) → Reach link x a → 0 < link x → Ordered (claims x) (claims (link x)))
    → Reach link b a → Along claims a b
along claims f (here h) = record { starts = omega arith; writer_ends = λ d. absurd (d refl) }
along claims f (there {a = a} h r) =
    let o = f a (here h) (reach_source r) in
    let ih = along claims (λ x q. f x (there h q)) r in
    record { starts = omega arith; writer_ends = λ d k. let q = o.writer_ends k in let z = ih.starts in omega arith }

module _ {N : ℕ} {n : Nodes} {s : Seats} (v : Invariant N n s) where
  pub seen_named : {a : ℕ} → Seen n.link s a → Named N (claim_at n) a
  seen_named (from_head r) = reach_named v.nodes (v.nodes.links 0) r
  seen_named (from_prev j r) = reach_named v.nodes (v.seats j).prev_named r
  seen_named (from_cur j r) = reach_named v.nodes (v.seats j).cur_named r

  pub known_named : {a : ℕ} → Known n.link s a → Named N (claim_at n) a
  known_named (inl e) = nothing e
  known_named (inr p) = seen_named p

  pub seen_proper : {a : ℕ} → Seen n.link s a → Proper (claim_at n a)
  seen_proper p = named_proper (seen_named p) (seen_pos p)

  pub own_pos : (i : ℕ) → s.phase i ≢ 0 → 0 < s.own i
  own_pos i b = (v.seats i).owning b

  pub own_proper : (i : ℕ) → s.phase i ≢ 0 → Proper (claim_at n (s.own i))
  own_proper i b = named_proper (v.seats i).own_named (own_pos i b)

  -- a claim that is not on the list is not seen: no one links to it
  pub hidden : {i : ℕ} → Outside (s.phase i) → Seen n.link s (s.own i) → ⊥
  hidden {i} o p =
      let q = v.outside i o in
      let w = v.owner (v.seen_listed p q.unmarked) q.unmarked in
      let d : i ≢ w.seat = λ e. not_both o (rw (ap s.phase e) w.linked) in
      v.distinct i w.seat d (outside_busy o) (linked_busy w.linked) (sym w.owns)

  pub known_ends : {a : ℕ} → Known n.link s a → Ending n.link a
  known_ends (inl e) = rw e (0, stop)
  known_ends (inr p) = v.ends p

  pub ordered_along : {a b : ℕ} → Seen n.link s a → Reach n.link b a → Along (claim_at n) a b
  ordered_along p r = along (claim_at n) (λ x q h. v.ordered (seen_on p q) h) r
