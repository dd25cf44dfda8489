-- A linked claim is marked and its seat leaves it: withdraw (phase 6, own kept) and release (idle). The invariant stays: what the claim
-- had yet to come to is no longer asked of it.
use mathlib.Core.Path.{◌≡◌, sym, ◌∙◌, ap}
use mathlib.Core.Logic.{◌≢◌, inl, inr}
use Prim.Native.Nat.{ℕ, ◌<◌}
use native.Mathlib.Omega.{arith}
use Rattle.rules.proofs.Ground.Deciding.{if_same}
use Rattle.rules.proofs.Ground.Following.{not_from_0}
use Rattle.rules.proofs.Invariant.View.{Nodes, Seats, claim_at, Unmarked, remark, Reseated, Outside, Linked}
use Rattle.rules.proofs.Invariant.Phases.{outside_busy, linked_busy, outside_not_gone, linked_not_gone}
use Rattle.rules.proofs.Laws.Shape.{in_6}
use Rattle.rules.proofs.Invariant.Clauses.{NodeShape, SeatShape, Seen, from_head, from_prev, from_cur, Ahead, reader_comes, writer_comes, Invariant}
use Rattle.rules.specs.Refusing.{Proper}
use Rattle.rules.proofs.Invariant.Known.{own_pos, own_proper}
use Rattle.rules.proofs.Invariant.SeatShapes.{at_rest, idle_seat}
use Rattle.rules.proofs.Invariant.SeatMoves.{not_stuck}

-- where a seat that leaves its claim o goes, by its phase P and own O
pub data Leaves (o P O : ℕ) : Type 0 where
  withdraws : P ≡ 6 → O ≡ o → Leaves o P O
  releases : P ≡ 0 → O ≡ 0 → Leaves o P O

-- a node in use is marked
pub remark_shape : {N : ℕ} {n : Nodes} (new : ℕ → ℕ) (o : ℕ) → NodeShape N n → 0 < o → Proper (claim_at n o) → new o ≡ 1
    → ((a : ℕ) → a ≢ o → new a ≡ n.mark a) → NodeShape N (remark n new)
remark_shape new o h pos c one old = record {
  head_unmarked = old 0 (omega (arith, pos)) ∙ h.head_unmarked;
  blank_or_proper = λ a z. if_same a o
      (λ e. inr (rw e c))
      (λ d. elim (h.blank_or_proper a z) [
        | inl b ↦ inl (record { start_0 = b.start_0; end_0 = b.end_0; kind_0 = b.kind_0; mark_0 = old a d ∙ b.mark_0; link_0 = b.link_0 })
        | inr k ↦ inr k
      ]);
  marks = λ a. if_same a o (λ e. rw (e, one) (omega arith)) (λ d. rw (old a d) (h.marks a));
  links = h.links;
}

module _ {N : ℕ} {n : Nodes} {s u : Seats} (v : Invariant N n s) (new : ℕ → ℕ) (i P O : ℕ) (linked_i : Linked (s.phase i))
    (leaves : Leaves (s.own i) P O) (m : Reseated s u i P O 0 0) (one : new (s.own i) ≡ 1)
    (old : (a : ℕ) → a ≢ s.own i → new a ≡ n.mark a) where
  -- the seat is no longer outside nor linked
  outside_P : Outside P → ⊥
  outside_P o = elim leaves [ withdraws p q ↦ outside_not_gone o p | releases p q ↦ outside_busy o p ]

  linked_P : Linked P → ⊥
  linked_P l = elim leaves [ withdraws p q ↦ linked_not_gone l p | releases p q ↦ linked_busy l p ]

  was_outside : (j : ℕ) → Outside (u.phase j) → (j ≢ i) × Outside (s.phase j)
  was_outside j h = if_same j i (λ e. absurd (outside_P (rw (ap u.phase e ∙ m.phase_i) at h))) (λ d. (d, rw (m.phase_j j d) at h))

  was_linked : (j : ℕ) → Linked (u.phase j) → (j ≢ i) × Linked (s.phase j)
  was_linked j h = if_same j i (λ e. absurd (linked_P (rw (ap u.phase e ∙ m.phase_i) at h))) (λ d. (d, rw (m.phase_j j d) at h))

  was_busy : (j : ℕ) → u.phase j ≢ 0 → (s.phase j ≢ 0) × (u.own j ≡ s.own j)
  was_busy j h =
      if_same j i
      (λ e. elim leaves [
        | withdraws p q ↦ (rw e (linked_busy linked_i), rw e (m.own_i ∙ q))
        | releases p q ↦ absurd (h (ap u.phase e ∙ m.phase_i ∙ p))
      ])
      (λ d. (rw (m.phase_j j d) at h, m.own_j j d))

  seen_was : {a : ℕ} → Seen n.link u a → Seen n.link s a
  seen_was (from_head r) = from_head r
  seen_was (from_prev j r) = if_same j i (λ e. absurd (not_from_0 r (ap u.prev e ∙ m.prev_i))) (λ d. from_prev j (rw (m.prev_j j d) at r))
  seen_was (from_cur j r) = if_same j i (λ e. absurd (not_from_0 r (ap u.cur e ∙ m.cur_i))) (λ d. from_cur j (rw (m.cur_j j d) at r))

  -- the marks of the other claims
  other : (j : ℕ) → j ≢ i → s.phase j ≢ 0 → new (s.own j) ≡ n.mark (s.own j)
  other j d b = old (s.own j) (v.distinct j i d b (linked_busy linked_i))

  was_unmarked : {a : ℕ} → new a ≢ 1 → (a ≢ s.own i) × Unmarked n a
  was_unmarked {a} f = let d : a ≢ s.own i = λ e. f (ap new e ∙ one) in (d, λ e. f (old a d ∙ e))

  ahead : (g w : ℕ) → g ≢ i → w ≢ i → Ahead n.link s g w → Ahead n.link u g w
  ahead g w a b (reader_comes h r) = reader_comes (rw (m.phase_j g a) h) (rw (m.own_j w b, m.cur_j g a) r)
  ahead g w a b (writer_comes h r) = writer_comes (rw (m.phase_j w b) h) (rw (m.own_j g a, m.cur_j w b) r)

  seat : SeatShape N (claim_at n) P O 0 0
  seat = elim leaves [
    | withdraws p q ↦ rw q (at_rest (in_6 p) (own_pos v i (linked_busy linked_i)) (v.seats i).own_named)
    | releases p q ↦ rw q (idle_seat p)
  ]

  pub leave_keeps : Invariant N (remark n new) u
  leave_keeps = record {
    nodes = remark_shape new (s.own i) v.nodes (own_pos v i (linked_busy linked_i)) (own_proper v i (linked_busy linked_i)) one old;
    seats = λ j. if_same j i
        (λ e. rw (e, m.phase_i, m.own_i, m.prev_i, m.cur_i) seat)
        (λ d. rw (m.phase_j j d, m.own_j j d, m.prev_j j d, m.cur_j j d) (v.seats j));
    distinct = λ a b d x y. let p = was_busy a x in let q = was_busy b y in rw (p.1, q.1) (v.distinct a b d p.0 q.0);
    outside = λ j h. let k = was_outside j h in
        let q = v.outside j k.1 in
        rw (m.own_j j k.0) (record { unmarked = rw (other j k.0 (outside_busy k.1)) q.unmarked; last = q.last });
    linked = λ j h. let k = was_linked j h in
        let q = v.linked j k.1 in
        rw (m.own_j j k.0) (record { unmarked = rw (other j k.0 (linked_busy k.1)) q.unmarked; on_list = q.on_list });
    owner = λ r e. let f = was_unmarked e in
        let w = v.owner r f.1 in
        let d : w.seat ≢ i = λ q. f.0 (sym w.owns ∙ ap s.own q) in
        record { seat = w.seat; linked = rw (m.phase_j w.seat d) w.linked; owns = m.own_j w.seat d ∙ w.owns };
    seen_listed = λ z e. v.seen_listed (seen_was z) (was_unmarked e).1;
    ordered = λ z. v.ordered (seen_was z);
    ends = λ z. v.ends (seen_was z);
    passed = λ j h. let k = was_outside j h in rw (m.own_j j k.0, m.prev_j j k.0) (v.passed j k.1);
    stuck = λ j. if_same j i
        (λ e. rw (e, m.phase_i) (elim leaves [ withdraws p q ↦ not_stuck (omega arith) (omega arith) | releases p q ↦ not_stuck (omega arith) (omega arith) ]))
        (λ d. rw (m.phase_j j d, m.cur_j j d, m.own_j j d) (v.stuck j));
    reader_cur = λ j h. let k = was_linked j h in rw (m.own_j j k.0, m.cur_j j k.0) (v.reader_cur j k.1);
    unsettled = λ g w x y. let j = was_linked g x in let k = was_linked w y in
        rw (m.own_j g j.0, m.own_j w k.0) (λ a b c d. ahead g w j.0 k.0 (v.unsettled g w j.1 k.1 a b c d));
  }
