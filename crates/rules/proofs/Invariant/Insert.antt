-- A claim is linked in behind prev, and its seat starts to validate, or holds where nobody reads. The invariant stays: a new reader has every
-- writer that starts within it ahead, a new writer starts at the head. The phase that the seat comes to is a parameter.
use mathlib.Core.Path.{◌≡◌, refl, sym, ◌∙◌, ap}
use mathlib.Core.Logic.{◌≢◌, ◌⊎◌, inl, inr}
use Prim.Native.Nat.{ℕ, suc, ◌≤◌, ◌<◌}
use native.Mathlib.Omega.{arith}
use Rattle.rules.proofs.Ground.Deciding.{if_same}
use Rattle.rules.proofs.Ground.Following.{reach_source, reach_on, not_from_0, beyond, linear, more, insert_keeps_reach, insert_adds_own, insert_reaches_own, insert_keeps_list, insert_keeps_ends}
use Rattle.rules.specs.Reach.{Reach, here}
use Rattle.rules.proofs.Invariant.View.{Nodes, Seats, claim_at, Unmarked, relink, Outside, walking, Linked, validating, holding}
use Rattle.rules.proofs.Invariant.Phases.{outside_busy, linked_busy, not_both}
use Rattle.rules.proofs.Invariant.Clauses.{nothing, NodeShape, SeatShape, OnList, Seen, from_head, from_prev, from_cur, Ending, Ordered, Standing, Ahead, reader_comes, writer_comes, Invariant}
use Rattle.rules.proofs.Invariant.Known.{along, Known, known_on, known_head, known_link, known_ends, seen_pos, seen_proper, own_pos, own_proper, precedes_ordered, hidden}
use Rattle.rules.proofs.Invariant.SeatShapes.{not_waiting, on_its_way, at_rest}
use Rattle.rules.proofs.Invariant.SeatMoves.{Moved, not_stuck}
use Rattle.rules.proofs.Invariant.Unlink.{relink_shape}
use Rattle.rules.proofs.Laws.Shape.{in_5}

-- where a seat goes on once its claim is linked, by phase P, prev Q and cur C: a reader validates behind own, a writer from the head as
-- it then is; where no node's claim reads, it holds
pub data Starts (n : Nodes) (new : ℕ → ℕ) (own prev P Q C : ℕ) : Type 0 where
  reader : P ≡ 3 → n.kind own ≡ 1 → Q ≡ own → C ≡ n.link prev → Starts n new own prev P Q C
  writer : P ≡ 3 → n.kind own ≡ 2 → Q ≡ 0 → C ≡ new 0 → Starts n new own prev P Q C
  holder : P ≡ 5 → ((a : ℕ) → n.kind a ≢ 1) → Q ≡ 0 → C ≡ 0 → Starts n new own prev P Q C

module _ {N : ℕ} {n : Nodes} {s u : Seats} (v : Invariant N n s) (new : ℕ → ℕ) (i P Q C : ℕ) (walks : s.phase i ≡ 1)
    (prev_unmarked : Unmarked n (s.prev i)) (new_own : new (s.own i) ≡ n.link (s.prev i)) (new_prev : new (s.prev i) ≡ s.own i)
    (old : (a : ℕ) → a ≢ s.own i → a ≢ s.prev i → new a ≡ n.link a)
    (m : Moved s u i P Q C) (starts : Starts n new (s.own i) (s.prev i) P Q C)
    (front : 0 < n.link (s.prev i) → Ordered (claim_at n (s.own i)) (claim_at n (n.link (s.prev i)))) where
  abbrev o : ℕ
  o = s.own i

  abbrev p : ℕ
  p = s.prev i

  out : Outside (s.phase i)
  out = walking walks

  linked_P : Linked P
  linked_P = elim starts [ reader x k q c ↦ validating x | writer x k q c ↦ validating x | holder x k q c ↦ holding x ]

  o_pos : 0 < o
  o_pos = own_pos v i (outside_busy out)

  o_hidden : Seen n.link s o → ⊥
  o_hidden = hidden v out

  o_last : n.link o ≡ 0
  o_last = (v.outside i out).last

  o≢p : o ≢ p
  o≢p e = o_hidden (from_prev i (rw e (here (rw e at o_pos))))

  keeps : {b a : ℕ} → Reach n.link b a → Reach new b a
  keeps r = insert_keeps_reach n.link new o p o_pos o≢p o_last new_own new_prev old r

  -- ---- what is seen afterwards was seen before, or is own
  link_hidden : Reach n.link o (n.link p) → ⊥
  link_hidden r = o_hidden (known_on (known_link i) r)

  from_own : {a : ℕ} → Reach new a o → (a ≡ o) ⊎ Seen n.link s a
  from_own r = elim ((insert_adds_own n.link new o p o_pos o≢p o_last new_own new_prev old link_hidden r).0 refl)
      [ inl e ↦ inl e | inr q ↦ inr (known_on (known_link i) q) ]

  from_known : {a b : ℕ} → Known n.link s b → Reach new a b → (a ≡ o) ⊎ Seen n.link s a
  from_known k r =
      elim ((insert_adds_own n.link new o p o_pos o≢p o_last new_own new_prev old link_hidden r).1 (λ q. o_hidden (known_on k q)))
      [ inl e ↦ inl e | inr q ↦ inr (known_on k q) ]

  from_new_head : {a : ℕ} → OnList new a → (a ≡ o) ⊎ Seen n.link s a
  from_new_head r =
      if_same 0 p
      (λ e. from_own (rw (ap new e ∙ new_prev) at r))
      (λ e. from_known known_head (rw (old 0 (omega (arith, o_pos)) e) at r))

  from_Q : {a : ℕ} → Reach new a Q → (a ≡ o) ⊎ Seen n.link s a
  from_Q r = elim starts [ reader x k q c ↦ from_own (rw q at r) | writer x k q c ↦ absurd (not_from_0 r q) | holder x k q c ↦ absurd (not_from_0 r q) ]

  from_C : {a : ℕ} → Reach new a C → (a ≡ o) ⊎ Seen n.link s a
  from_C r = elim starts [ reader x k q c ↦ from_known (known_link i) (rw c at r) | writer x k q c ↦ from_new_head (rw c at r) | holder x k q c ↦ absurd (not_from_0 r c) ]

  seen_was : {a : ℕ} → Seen new u a → (a ≡ o) ⊎ Seen n.link s a
  seen_was (from_head r) = from_new_head r
  seen_was (from_prev j r) =
      if_same j i
      (λ e. from_Q (rw (e, m.prev_i) at r))
      (λ d. let r' = rw (m.prev_j j d) at r in from_known (inr (from_prev j (here (reach_source r')))) r')
  seen_was (from_cur j r) =
      if_same j i
      (λ e. from_C (rw (e, m.cur_i) at r))
      (λ d. let r' = rw (m.cur_j j d) at r in from_known (inr (from_cur j (here (reach_source r')))) r')

  -- ---- the list
  on_list_keeps : {a : ℕ} → OnList n.link a → OnList new a
  on_list_keeps r = insert_keeps_list n.link new o p o_pos o≢p o_last new_own new_prev old r

  own_on_list : OnList new o
  own_on_list =
      if_same 0 p
      (λ e. rw (ap new e ∙ new_prev) (here o_pos))
      (λ e. let h : 0 < p = omega arith in
      let r = v.seen_listed (from_prev i (here h)) prev_unmarked in
      rw (old 0 (omega (arith, o_pos)) e) (insert_reaches_own n.link new o p o_pos o≢p o_last new_own new_prev old r))

  ordered : {a : ℕ} → (a ≡ o) ⊎ Seen n.link s a → 0 < new a → Ordered (claim_at n a) (claim_at n (new a))
  ordered {a} (inl e) h = let k : new a ≡ n.link p = ap new e ∙ new_own in rw (k, e) (front (rw k at h))
  ordered {a} (inr z) h =
      if_same a p
      (λ e. let k : new a ≡ o = ap new e ∙ new_prev in
      let q : 0 < p = rw e at (seen_pos z) in
      rw (k, e) (precedes_ordered (seen_proper v (from_prev i (here q))) (v.passed i out q)))
      (λ e. let k : new a ≡ n.link a = old a (λ q. o_hidden (rw q at z)) e in rw k (v.ordered z (rw k at h)))

  ends_known : {a : ℕ} → Known n.link s a → Ending new a
  ends_known k = insert_keeps_ends n.link new o p o_pos o≢p o_last new_own new_prev old (λ q. o_hidden (known_on k q)) (known_ends v k).1

  ends : {a : ℕ} → (a ≡ o) ⊎ Seen n.link s a → Ending new a
  ends (inl e) = let k = ends_known (known_link i) in rw e (suc k.0, more {n = k.0} o_pos (rw new_own k.1))
  ends (inr z) = ends_known (inr z)

  -- ---- the phases
  was_linked : (j : ℕ) → j ≢ i → Linked (u.phase j) → Linked (s.phase j)
  was_linked j d h = rw (m.phase_j j d) at h

  was_outside : (j : ℕ) → Outside (u.phase j) → (j ≢ i) × Outside (s.phase j)
  was_outside j h =
      if_same j i
      (λ e. absurd (not_both (rw (ap u.phase e ∙ m.phase_i) at h) linked_P))
      (λ d. (d, rw (m.phase_j j d) at h))

  was_busy : (j : ℕ) → u.phase j ≢ 0 → s.phase j ≢ 0
  was_busy j h = if_same j i (λ e. rw e (outside_busy out)) (λ d. rw (m.phase_j j d) at h)

  is_linked : (j : ℕ) → Linked (s.phase j) → Linked (u.phase j)
  is_linked j h = if_same j i (λ e. absurd (not_both out (rw (ap s.phase e) at h))) (λ d. rw (m.phase_j j d) h)

  own_kept : (j : ℕ) → u.own j ≡ s.own j
  own_kept j = if_same j i (λ e. rw e m.own_i) (m.own_j j)

  linked : (j : ℕ) → Linked (u.phase j) → Standing (relink n new) (s.own j)
  linked j h =
      if_same j i
      (λ e. rw e (record { unmarked = (v.outside i out).unmarked; on_list = own_on_list }))
      (λ d. let q = v.linked j (was_linked j d h) in record { unmarked = q.unmarked; on_list = on_list_keeps q.on_list })

  -- ---- who has yet to come to whom
  new_reader_ahead : (w : ℕ) → Linked (u.phase w) → n.kind o ≡ 1 → n.kind (s.own w) ≡ 2 → n.start o ≤ n.start (s.own w) → Ahead new u i w
  new_reader_ahead w lw ko kw a =
      let on = (linked w lw).on_list in
      let d : o ≢ s.own w = λ e. let y = ap n.kind e in omega arith in
      elim starts [
        | writer x k z c ↦ absurd (omega arith)
        | holder x k z c ↦ absurd (k o ko)
        | reader x k z c ↦
            reader_comes (rw m.phase_i (omega arith))
            (elim (linear own_on_list on) [
              | inl r ↦ let b : Reach new (s.own w) (n.link p) = rw new_own at (beyond d r) in rw (own_kept w, m.cur_i, c) b
              | inr r ↦ absurd (
                  let z = (along (claim_at n) (λ a q h. ordered (from_new_head (reach_on on q)) h) r).writer_ends (λ e. d (sym e)) kw in
                  let cl = (own_proper v w (was_busy w (linked_busy lw))).some in
                  omega arith)
            ])
      ]

  new_writer_ahead : (g : ℕ) → Linked (u.phase g) → n.kind (s.own g) ≡ 1 → n.kind o ≡ 2 → Ahead new u g i
  new_writer_ahead g lg kg ko =
      elim starts [
        | reader x k z c ↦ absurd (omega arith)
        | holder x k z c ↦ absurd (k (s.own g) kg)
        | writer x k z c ↦ writer_comes (rw m.phase_i (omega arith)) (rw (own_kept g, m.cur_i, c) (linked g lg).on_list)
      ]

  others_ahead : (g w : ℕ) → g ≢ i → w ≢ i → Ahead n.link s g w → Ahead new u g w
  others_ahead g w a b (reader_comes h r) = reader_comes (rw (m.phase_j g a) h) (rw (own_kept w, m.cur_j g a) (keeps r))
  others_ahead g w a b (writer_comes h r) = writer_comes (rw (m.phase_j w b) h) (rw (own_kept g, m.cur_j w b) (keeps r))

  unsettled : (g w : ℕ) → Linked (u.phase g) → Linked (u.phase w) → n.kind (s.own g) ≡ 1 → n.kind (s.own w) ≡ 2
      → n.start (s.own g) ≤ n.start (s.own w) → n.start (s.own w) < n.end (s.own g) → Ahead new u g w
  unsettled g w lg lw kg kw a b =
      if_same g i
      (λ e. rw e (new_reader_ahead w lw (rw e at kg) kw (rw e at a)))
      (λ d. if_same w i
      (λ e. rw e (new_writer_ahead g lg kg (rw e at kw)))
      (λ d'. others_ahead g w d d' (v.unsettled g w (was_linked g d lg) (was_linked w d' lw) kg kw a b)))

  -- ---- the shape
  nodes : NodeShape N (relink n new)
  nodes =
      let own_named = (v.seats i).own_named in
      relink_shape new v.nodes (λ a. if_same a o
      (λ e. inr (rw e own_named, rw (e, new_own) (v.nodes.links p)))
      (λ d. if_same a p
      (λ e. inr (rw e (v.seats i).prev_named, rw (e, new_prev) own_named))
      (λ d'. inl (old a d d'))))

  seat : SeatShape N (claim_at n) P o Q C
  seat =
      let own_named = (v.seats i).own_named in
      elim starts [
        | reader x k q c ↦ rw (q, c)
            (on_its_way (omega arith) (omega arith) (not_waiting (omega arith) (omega arith)) o_pos own_named own_named (v.nodes.links p))
        | writer x k q c ↦ rw (q, c)
            (on_its_way (omega arith) (omega arith) (not_waiting (omega arith) (omega arith)) o_pos own_named (nothing refl) (nodes.links 0))
        | holder x k q c ↦ rw (q, c) (at_rest (in_5 x) o_pos own_named)
      ]

  starts_behind : n.kind o ≡ 1 → 0 < C → n.start o ≤ n.start C
  starts_behind k h = elim starts [ reader x l q c ↦ rw c (front (rw c at h)).starts | writer x l q c ↦ absurd (omega arith) | holder x l q c ↦ absurd (l o k) ]

  pub insert_keeps : Invariant N (relink n new) u
  insert_keeps = record {
    nodes = nodes;
    seats = λ j. if_same j i
        (λ e. rw (e, m.phase_i, m.own_i, m.prev_i, m.cur_i) seat)
        (λ d. rw (m.phase_j j d, m.own_j j d, m.prev_j j d, m.cur_j j d) (v.seats j));
    distinct = λ a b d x y. rw (own_kept a, own_kept b) (v.distinct a b d (was_busy a x) (was_busy b y));
    outside = λ j h. let k = was_outside j h in
        let q = v.outside j k.1 in
        let d : s.own j ≢ o = v.distinct j i k.0 (outside_busy k.1) (outside_busy out) in
        let d' : s.own j ≢ p = λ e. hidden v k.1 (from_prev i (rw e (here (rw e at (own_pos v j (outside_busy k.1)))))) in
        rw (own_kept j) (record { unmarked = q.unmarked; last = old (s.own j) d d' ∙ q.last });
    linked = λ j h. rw (own_kept j) (linked j h);
    owner = λ r e. elim (from_new_head r) [
      | inl q ↦ record { seat = i; linked = rw m.phase_i linked_P; owns = m.own_i ∙ sym q }
      | inr z ↦
          let w = v.owner (v.seen_listed z e) e in
          record { seat = w.seat; linked = is_linked w.seat w.linked; owns = own_kept w.seat ∙ w.owns }
    ];
    seen_listed = λ z e. elim (seen_was z) [ inl q ↦ rw q own_on_list | inr y ↦ on_list_keeps (v.seen_listed y e) ];
    ordered = λ z. ordered (seen_was z);
    ends = λ z. ends (seen_was z);
    passed = λ j h. let k = was_outside j h in rw (own_kept j, m.prev_j j k.0) (v.passed j k.1);
    stuck = λ j. if_same j i
        (λ e. rw (e, m.phase_i) (elim starts [
          | reader x k q c ↦ not_stuck (omega arith) (omega arith)
          | writer x k q c ↦ not_stuck (omega arith) (omega arith)
          | holder x k q c ↦ not_stuck (omega arith) (omega arith)
        ]))
        (λ d. rw (m.phase_j j d, m.cur_j j d, m.own_j j d) (v.stuck j));
    reader_cur = λ j h. if_same j i
        (λ e. rw (e, m.own_i, m.cur_i) starts_behind)
        (λ d. rw (m.own_j j d, m.cur_j j d) (v.reader_cur j (was_linked j d h)));
    unsettled = λ g w. rw (own_kept g, own_kept w) (unsettled g w);
  }
