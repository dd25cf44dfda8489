-- A seat moves and no node changes: the invariant stays, if the seat's new place is known and what its claim has yet to come to still
-- lies ahead. First any move, then the moves of the rules, one by one.
use mathlib.Core.Path.{◌≡◌, sym, ◌∙◌, ap}
use mathlib.Core.Logic.{◌≢◌}
use Prim.Native.Nat.{ℕ, ◌≤◌, ◌<◌}
use native.Mathlib.Omega.{arith}
use Rattle.rules.specs.Comparison.{Claim}
use Rattle.rules.proofs.Ground.Deciding.{if_same}
use Rattle.rules.specs.Reach.{Reach}
use Rattle.rules.proofs.Laws.Compared.{Precedes}
use Rattle.rules.proofs.Invariant.View.{Nodes, Seats, claim_at, Reseated, Outside, Linked}
use Rattle.rules.proofs.Invariant.Phases.{outside_busy, linked_busy, not_both}
use Rattle.rules.proofs.Invariant.Clauses.{SeatShape, Seen, from_head, from_prev, from_cur, Stuck, Ahead, reader_comes, writer_comes, Invariant}
use Rattle.rules.proofs.Invariant.Known.{Known, known_on}

-- the seat keeps its claim, which is on the list afterwards if and only if it was
abbrev pub Moved : Seats → Seats → ℕ → ℕ → ℕ → ℕ → Type 0
Moved s u i P Q C = Reseated s u i P (s.own i) Q C

pub data SameClass (p q : ℕ) : Type 0 where
  both_outside : Outside p → Outside q → SameClass p q
  both_linked : Linked p → Linked q → SameClass p q

pub not_stuck : {P : ℕ} {c o : Claim} → P ≢ 2 → P ≢ 4 → Stuck P c o
not_stuck f g = record { at_2 = λ z. absurd (f z); at_4 = λ z. absurd (g z) }

-- two claims of which one reads, and the other writes and starts within it
pub data Crossing (c d : Claim) : Type 0 where
  reads_writer : c.kind ≡ 1 → d.kind ≡ 2 → c.start ≤ d.start → d.start < c.end → Crossing c d
  writes_reader : c.kind ≡ 2 → d.kind ≡ 1 → d.start ≤ c.start → c.start < d.end → Crossing c d

module _ {s u : Seats} {i P Q C : ℕ} (m : Moved s u i P Q C) where
  own_kept : (j : ℕ) → u.own j ≡ s.own j
  own_kept j = if_same j i (λ e. rw e m.own_i) (m.own_j j)

  module _ (class : SameClass (s.phase i) P) where
    was_linked : (j : ℕ) → Linked (u.phase j) → Linked (s.phase j)
    was_linked j h =
        if_same j i
        (λ e. rw e (elim class [ both_outside p q ↦ absurd (not_both q (rw (ap u.phase e ∙ m.phase_i) at h)) | both_linked p q ↦ p ]))
        (λ d. rw (m.phase_j j d) at h)

    is_linked : (j : ℕ) → Linked (s.phase j) → Linked (u.phase j)
    is_linked j h =
        if_same j i
        (λ e. rw (ap u.phase e ∙ m.phase_i) (elim class [ both_outside p q ↦ absurd (not_both p (rw (ap s.phase e) at h)) | both_linked p q ↦ q ]))
        (λ d. rw (m.phase_j j d) h)

    was_outside : (j : ℕ) → Outside (u.phase j) → Outside (s.phase j)
    was_outside j h =
        if_same j i
        (λ e. rw e (elim class [ both_outside p q ↦ p | both_linked p q ↦ absurd (not_both (rw (ap u.phase e ∙ m.phase_i) at h) q) ]))
        (λ d. rw (m.phase_j j d) at h)

    class_busy : s.phase i ≢ 0
    class_busy = elim class [ both_outside p q ↦ outside_busy p | both_linked p q ↦ linked_busy p ]

    was_busy : (j : ℕ) → u.phase j ≢ 0 → s.phase j ≢ 0
    was_busy j h = if_same j i (λ e. rw e class_busy) (λ d. rw (m.phase_j j d) at h)

    module _ {N : ℕ} {n : Nodes} (v : Invariant N n s) (known_Q : Known n.link s Q) (known_C : Known n.link s C) where
      seen_was : {a : ℕ} → Seen n.link u a → Seen n.link s a
      seen_was (from_head r) = from_head r
      seen_was (from_prev j r) =
          if_same j i (λ e. known_on known_Q (rw (e, m.prev_i) at r)) (λ d. from_prev j (rw (m.prev_j j d) at r))
      seen_was (from_cur j r) =
          if_same j i (λ e. known_on known_C (rw (e, m.cur_i) at r)) (λ d. from_cur j (rw (m.cur_j j d) at r))

      module _ (shape : SeatShape N (claim_at n) P (s.own i) Q C) (stuck : Stuck P (claim_at n C) (claim_at n (s.own i)))
          (passed : Outside (s.phase i) → 0 < Q → Precedes (claim_at n Q) (claim_at n (s.own i)))
          (reader_cur : Linked (s.phase i) → n.kind (s.own i) ≡ 1 → 0 < C → n.start (s.own i) ≤ n.start C)
          (still_ahead : (j : ℕ) → j ≢ i → Linked (s.phase i) → Linked (s.phase j) → Crossing (claim_at n (s.own i)) (claim_at n (s.own j))
          → Reach n.link (s.own j) (s.cur i) → (P ≢ 5) × Reach n.link (s.own j) C) where
        -- neither of the two moved
        others_ahead : (g w : ℕ) → g ≢ i → w ≢ i → Ahead n.link s g w → Ahead n.link u g w
        others_ahead g w a b (reader_comes h r) = reader_comes (rw (m.phase_j g a) h) (rw (own_kept w, m.cur_j g a) r)
        others_ahead g w a b (writer_comes h r) = writer_comes (rw (m.phase_j w b) h) (rw (own_kept g, m.cur_j w b) r)

        -- the reader moved
        reader_ahead : (w : ℕ) → w ≢ i
            → (Reach n.link (s.own w) (s.cur i) → (P ≢ 5) × Reach n.link (s.own w) C) → Ahead n.link s i w → Ahead n.link u i w
        reader_ahead w d f (reader_comes h r) = let k = f r in reader_comes (rw m.phase_i k.0) (rw (own_kept w, m.cur_i) k.1)
        reader_ahead w d f (writer_comes h r) = writer_comes (rw (m.phase_j w d) h) (rw (own_kept i, m.cur_j w d) r)

        -- the writer moved
        writer_ahead : (g : ℕ) → g ≢ i
            → (Reach n.link (s.own g) (s.cur i) → (P ≢ 5) × Reach n.link (s.own g) C) → Ahead n.link s g i → Ahead n.link u g i
        writer_ahead g d f (reader_comes h r) = reader_comes (rw (m.phase_j g d) h) (rw (own_kept i, m.cur_j g d) r)
        writer_ahead g d f (writer_comes h r) = let k = f r in writer_comes (rw m.phase_i k.0) (rw (own_kept g, m.cur_i) k.1)

        unsettled : (g w : ℕ) → Linked (u.phase g) → Linked (u.phase w) → n.kind (s.own g) ≡ 1 → n.kind (s.own w) ≡ 2
            → n.start (s.own g) ≤ n.start (s.own w) → n.start (s.own w) < n.end (s.own g) → Ahead n.link u g w
        unsettled g w lg lw kg kw a b =
            let sg = was_linked g lg in
            let sw = was_linked w lw in
            let h = v.unsettled g w sg sw kg kw a b in
            if_same g i
            (λ e. if_same w i
            (λ e'. let k = ap (λ x. n.kind (s.own x)) (e ∙ sym e') in absurd (omega arith))
            (λ d. rw e (reader_ahead w d
            (still_ahead w d (rw e at sg) sw (reads_writer (rw e at kg) kw (rw e at a) (rw e at b))) (rw e at h))))
            (λ d. if_same w i
            (λ e. rw e (writer_ahead g d
            (still_ahead g d (rw e at sw) sg (writes_reader (rw e at kw) kg (rw e at a) (rw e at b))) (rw e at h)))
            (λ d'. others_ahead g w d d' h))

        pub move : Invariant N n u
        move = record {
          nodes = v.nodes;
          seats = λ j. if_same j i
              (λ e. rw (e, m.phase_i, m.own_i, m.prev_i, m.cur_i) shape)
              (λ d. rw (m.phase_j j d, m.own_j j d, m.prev_j j d, m.cur_j j d) (v.seats j));
          distinct = λ a b d x y. rw (own_kept a, own_kept b) (v.distinct a b d (was_busy a x) (was_busy b y));
          outside = λ j h. rw (own_kept j) (v.outside j (was_outside j h));
          linked = λ j h. rw (own_kept j) (v.linked j (was_linked j h));
          owner = λ r e. let w = v.owner r e in
              record { seat = w.seat; linked = is_linked w.seat w.linked; owns = own_kept w.seat ∙ w.owns };
          seen_listed = λ p. v.seen_listed (seen_was p);
          ordered = λ p. v.ordered (seen_was p);
          ends = λ p. v.ends (seen_was p);
          passed = λ j h. if_same j i
              (λ e. rw (e, m.own_i, m.prev_i) (passed (was_outside i (rw e at h))))
              (λ d. rw (m.own_j j d, m.prev_j j d) (v.passed j (was_outside j h)));
          stuck = λ j. if_same j i
              (λ e. rw (e, m.phase_i, m.cur_i, m.own_i) stuck)
              (λ d. rw (m.phase_j j d, m.cur_j j d, m.own_j j d) (v.stuck j));
          reader_cur = λ j h. if_same j i
              (λ e. rw (e, m.own_i, m.cur_i) (reader_cur (was_linked i (rw e at h))))
              (λ d. rw (m.own_j j d, m.cur_j j d) (v.reader_cur j (was_linked j h)));
          unsettled = λ g w. rw (own_kept g, own_kept w) (unsettled g w);
        }
