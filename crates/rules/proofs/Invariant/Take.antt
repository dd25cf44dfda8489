-- A free node is taken for a claim: reserve, and the step of a withdrawn seat. The invariant stays, since no one can come to the node.
use mathlib.Core.Path.{◌≡◌, refl, sym, ◌∙◌, ap, subst, subst₂}
use mathlib.Core.Logic.{◌≢◌, ◌⊎◌, inl, inr}
use Prim.Native.Nat.{ℕ, ◌≤◌, ◌<◌}
use native.Mathlib.Omega.{arith}
use Rattle.rules.proofs.Ground.Deciding.{if_same}
use Rattle.rules.proofs.Ground.Following.{reach_on, not_from_0, away_keeps_reach, away_adds_none, away_keeps_ends}
use Rattle.rules.specs.Reach.{Reach, here, there}
use Rattle.rules.proofs.Laws.Compared.{Precedes}
use Rattle.rules.proofs.Invariant.View.{Nodes, Seats, claim_at, Reseated, Outside, Linked, reserved}
use Rattle.rules.proofs.Invariant.Phases.{linked_busy, linked_not_gone, not_both}
use Rattle.rules.proofs.Invariant.Clauses.{Named, nothing, node, NodeShape, SeatShape, OnList, Seen, from_head, from_prev, from_cur, Ordered, Private, Stuck, Ahead, reader_comes, writer_comes, Invariant}
use Rattle.rules.specs.Refusing.{Proper}
use Rattle.rules.proofs.Invariant.Known.{seen_pos}
use Rattle.rules.proofs.Invariant.SeatShapes.{at_rest}
use Rattle.rules.proofs.Invariant.SeatMoves.{not_stuck}
use Rattle.rules.proofs.Laws.Shape.{in_7}

-- o is not on the list, is no other seat's own, and is not met from any other seat's prev or cur
pub record Free (n : Nodes) (s : Seats) (i o : ℕ) : Type 0 where
  pub is_node : 0 < o
  pub off_list : OnList n.link o → ⊥
  pub not_own : (j : ℕ) → j ≢ i → s.own j ≢ o
  pub not_prev : (j : ℕ) → j ≢ i → Reach n.link o (s.prev j) → ⊥
  pub not_cur : (j : ℕ) → j ≢ i → Reach n.link o (s.cur j) → ⊥

-- o is written anew, unmarked and with no next; every other node keeps its words
pub record Written (n u : Nodes) (o : ℕ) : Type 0 where
  pub proper : Proper (claim_at u o)
  pub link_o : u.link o ≡ 0
  pub mark_o : u.mark o ≡ 0
  pub start_a : (a : ℕ) → a ≢ o → u.start a ≡ n.start a
  pub end_a : (a : ℕ) → a ≢ o → u.end a ≡ n.end a
  pub kind_a : (a : ℕ) → a ≢ o → u.kind a ≡ n.kind a
  pub link_a : (a : ℕ) → a ≢ o → u.link a ≡ n.link a
  pub mark_a : (a : ℕ) → a ≢ o → u.mark a ≡ n.mark a

module _ {n n' : Nodes} {o : ℕ} (w : Written n n' o) where
  claim_same : (a : ℕ) → a ≢ o → claim_at n' a ≡ claim_at n a
  claim_same a d = λ i. record { start = w.start_a a d i; end = w.end_a a d i; kind = w.kind_a a d i }

  proper_same : {a : ℕ} → Proper (claim_at n a) → Proper (claim_at n' a)
  proper_same {a} c = if_same a o (λ e. rw e w.proper) (λ d. subst Proper (sym (claim_same a d)) c)

  named_same : {N a : ℕ} → Named N (claim_at n) a → Named N (claim_at n') a
  named_same (nothing e) = nothing e
  named_same (node h l c) = node h l (proper_same c)

  pub written_shape : {N : ℕ} → 0 < o → NodeShape N n → NodeShape N n'
  written_shape pos h = record {
    head_unmarked = w.mark_a 0 (omega (arith, pos)) ∙ h.head_unmarked;
    blank_or_proper = λ a z. if_same a o
        (λ e. inr (rw e w.proper))
        (λ d. elim (h.blank_or_proper a z) [
          | inl b ↦ inl (record {
            start_0 = w.start_a a d ∙ b.start_0;
            end_0 = w.end_a a d ∙ b.end_0;
            kind_0 = w.kind_a a d ∙ b.kind_0;
            mark_0 = w.mark_a a d ∙ b.mark_0;
            link_0 = w.link_a a d ∙ b.link_0;
          })
          | inr c ↦ inr (proper_same c)
        ]);
    marks = λ a. if_same a o (λ e. rw (e, w.mark_o) (omega arith)) (λ d. rw (w.mark_a a d) (h.marks a));
    links = λ a. if_same a o (λ e. nothing (ap n'.link e ∙ w.link_o)) (λ d. rw (w.link_a a d) (named_same (h.links a)));
  }

  pub seat_same : {N P O Q C : ℕ} → SeatShape N (claim_at n) P O Q C → SeatShape N (claim_at n') P O Q C
  seat_same h = record {
    has_phase = h.has_phase;
    owning = h.owning;
    resting = h.resting;
    at_cur = h.at_cur;
    own_named = named_same h.own_named;
    prev_named = named_same h.prev_named;
    cur_named = named_same h.cur_named;
  }

module _ {N : ℕ} {n n' : Nodes} {s u : Seats} {i o : ℕ} (v : Invariant N n s) (f : Free n s i o) (w : Written n n' o)
    (m : Reseated s u i 7 o 0 0) where
  abbrev Away : ℕ → Type 0
  Away a = Reach n.link o a → ⊥

  away_not_o : {a : ℕ} → Away a → a ≢ o
  away_not_o c e = c (rw e (here f.is_node))

  keeps : {b a : ℕ} → Away a → Reach n.link b a → Reach n'.link b a
  keeps c r = away_keeps_reach n.link n'.link o w.link_a c r

  adds_none : {b a : ℕ} → Away a → Reach n'.link b a → Reach n.link b a
  adds_none c r = away_adds_none n.link n'.link o w.link_a c r

  head_same : n'.link 0 ≡ n.link 0
  head_same = w.link_a 0 (omega (arith, f.is_node))

  on_list_was : {a : ℕ} → OnList n'.link a → OnList n.link a
  on_list_was r = adds_none f.off_list (rw head_same at r)

  on_list_keeps : {a : ℕ} → OnList n.link a → OnList n'.link a
  on_list_keeps r = rw head_same (keeps f.off_list r)

  listed_not_o : {a : ℕ} → OnList n.link a → a ≢ o
  listed_not_o r e = f.off_list (rw e at r)

  -- what is seen was seen, and no walk from there comes to o
  seen_was : {a : ℕ} → Seen n'.link u a → Seen n.link s a × Away a
  seen_was (from_head r) = let q = on_list_was r in (from_head q, λ z. f.off_list (reach_on q z))
  seen_was (from_prev j r) =
      if_same j i
      (λ e. absurd (not_from_0 r (ap u.prev e ∙ m.prev_i)))
      (λ d. let q = adds_none (f.not_prev j d) (rw (m.prev_j j d) at r) in (from_prev j q, λ z. f.not_prev j d (reach_on q z)))
  seen_was (from_cur j r) =
      if_same j i
      (λ e. absurd (not_from_0 r (ap u.cur e ∙ m.cur_i)))
      (λ d. let q = adds_none (f.not_cur j d) (rw (m.cur_j j d) at r) in (from_cur j q, λ z. f.not_cur j d (reach_on q z)))

  was_busy : (j : ℕ) → j ≢ i → u.phase j ≢ 0 → s.phase j ≢ 0
  was_busy j d h = rw (m.phase_j j d) at h

  was_linked : (j : ℕ) → Linked (u.phase j) → (j ≢ i) × Linked (s.phase j)
  was_linked j h =
      if_same j i
      (λ e. absurd (not_both (reserved (ap u.phase e ∙ m.phase_i)) h))
      (λ d. (d, rw (m.phase_j j d) at h))

  prev_not_o : (j : ℕ) → j ≢ i → s.prev j ≢ o
  prev_not_o j d = away_not_o (f.not_prev j d)

  cur_not_o : (j : ℕ) → j ≢ i → s.cur j ≢ o
  cur_not_o j d = away_not_o (f.not_cur j d)

  distinct : (a b : ℕ) → a ≢ b → u.phase a ≢ 0 → u.phase b ≢ 0 → u.own a ≢ u.own b
  distinct a b d x y =
      if_same a i
      (λ e. let k : b ≢ i = λ z. d (e ∙ sym z) in λ q. f.not_own b k (sym (m.own_j b k) ∙ sym q ∙ ap u.own e ∙ m.own_i))
      (λ j. if_same b i
      (λ e q. f.not_own a j (sym (m.own_j a j) ∙ q ∙ ap u.own e ∙ m.own_i))
      (λ k q. v.distinct a b d (was_busy a j x) (was_busy b k y) (sym (m.own_j a j) ∙ q ∙ m.own_j b k)))

  outside : (j : ℕ) → Outside (u.phase j) → Private n' (u.own j)
  outside j h =
      if_same j i
      (λ e. rw (e, m.own_i) (record { unmarked = rw w.mark_o (omega arith); last = w.link_o }))
      (λ d. let q = v.outside j (rw (m.phase_j j d) at h) in
      let k = f.not_own j d in
      rw (m.own_j j d) (record { unmarked = rw (w.mark_a (s.own j) k) q.unmarked; last = w.link_a (s.own j) k ∙ q.last }))

  ordered : {a : ℕ} → Seen n.link s a → Away a → 0 < n'.link a → Ordered (claim_at n' a) (claim_at n' (n'.link a))
  ordered {a} z c h =
      let d = away_not_o c in
      let e = w.link_a a d in
      let k : n.link a ≢ o = λ q. c (there (seen_pos z) (rw q (here f.is_node))) in
      rw e (subst₂ Ordered (sym (claim_same w a d)) (sym (claim_same w (n.link a) k)) (v.ordered z (rw e at h)))

  ahead : (g x : ℕ) → g ≢ i → x ≢ i → Ahead n.link s g x → Ahead n'.link u g x
  ahead g x a b (reader_comes h r) = reader_comes (rw (m.phase_j g a) h) (rw (m.own_j x b, m.cur_j g a) (keeps (f.not_cur g a) r))
  ahead g x a b (writer_comes h r) = writer_comes (rw (m.phase_j x b) h) (rw (m.own_j g a, m.cur_j x b) (keeps (f.not_cur x b) r))

  pub take_keeps : o ≤ N → (s.phase i ≡ 0) ⊎ (s.phase i ≡ 6) → Invariant N n' u
  take_keeps o_in idle = record {
    nodes = written_shape w f.is_node v.nodes;
    seats = λ j. if_same j i
        (λ e. rw (e, m.phase_i, m.own_i, m.prev_i, m.cur_i) (at_rest (in_7 refl) f.is_node (node f.is_node o_in w.proper)))
        (λ d. rw (m.phase_j j d, m.own_j j d, m.prev_j j d, m.cur_j j d) (seat_same w (v.seats j)));
    distinct = distinct;
    outside = outside;
    linked = λ j h. let k = was_linked j h in
        let q = v.linked j k.1 in
        rw (m.own_j j k.0) (record { unmarked = rw (w.mark_a (s.own j) (f.not_own j k.0)) q.unmarked; on_list = on_list_keeps q.on_list });
    owner = λ r e. let r' = on_list_was r in
        let q = v.owner r' (rw (w.mark_a _ (listed_not_o r')) at e) in
        let d : q.seat ≢ i = λ y. let l = rw (ap s.phase y) at q.linked in elim idle [ inl z ↦ linked_busy l z | inr z ↦ linked_not_gone l z ] in
        record { seat = q.seat; linked = rw (m.phase_j q.seat d) q.linked; owns = m.own_j q.seat d ∙ q.owns };
    seen_listed = λ z e. let q = seen_was z in on_list_keeps (v.seen_listed q.0 (rw (w.mark_a _ (away_not_o q.1)) at e));
    ordered = λ z. let q = seen_was z in ordered q.0 q.1;
    ends = λ z. let q = seen_was z in
        let e = v.ends q.0 in (e.0, away_keeps_ends n.link n'.link o w.link_a q.1 e.1);
    passed = λ j x p. if_same j i
        (λ e. absurd (let q : u.prev j ≡ 0 = ap u.prev e ∙ m.prev_i in omega arith))
        (λ d. rw (m.own_j j d, m.prev_j j d)
        (subst₂ Precedes (sym (claim_same w (s.prev j) (prev_not_o j d))) (sym (claim_same w (s.own j) (f.not_own j d)))
        (v.passed j (rw (m.phase_j j d) at x) (rw (m.prev_j j d) at p))));
    stuck = λ j. if_same j i
        (λ e. rw (e, m.phase_i) (not_stuck (omega arith) (omega arith)))
        (λ d. rw (m.phase_j j d, m.cur_j j d, m.own_j j d)
        (subst₂ (Stuck (s.phase j)) (sym (claim_same w (s.cur j) (cur_not_o j d))) (sym (claim_same w (s.own j) (f.not_own j d))) (v.stuck j)));
    reader_cur = λ j x. let k = was_linked j x in
        rw (m.own_j j k.0, m.cur_j j k.0)
        (let c = f.not_own j k.0 in
        rw (w.kind_a (s.own j) c, w.start_a (s.own j) c, w.start_a (s.cur j) (cur_not_o j k.0)) (v.reader_cur j k.1));
    unsettled = λ g x lg lx. let j = was_linked g lg in let k = was_linked x lx in
        let p = f.not_own g j.0 in let q = f.not_own x k.0 in
        rw (m.own_j g j.0, m.own_j x k.0)
        (rw (w.start_a (s.own g) p, w.start_a (s.own x) q, w.kind_a (s.own g) p, w.kind_a (s.own x) q, w.end_a (s.own g) p)
        (λ a b c d. ahead g x j.0 k.0 (v.unsettled g x j.1 k.1 a b c d)));
  }
