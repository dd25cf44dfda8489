-- A marked node is passed over: the link that led to it leads to its next. The invariant stays; the seat's own advance is a move of
-- its own. Assumes that the link is the head's or that of a node that is seen.
use mathlib.Core.Path.{◌≡◌, ◌∙◌, ap}
use mathlib.Core.Logic.{◌≢◌, ◌⊎◌, inl, inr}
use Prim.Native.Nat.{ℕ, ◌<◌}
use native.Mathlib.Omega.{arith}
use Rattle.rules.proofs.Ground.Deciding.{if_same}
use Rattle.rules.proofs.Ground.Following.{unlink_keeps_reach, unlink_adds_none, unlink_keeps_ends, unlink_keeps_list, unlink_adds_none_to_list}
use Rattle.rules.specs.Reach.{Reach, here, there}
use Rattle.rules.proofs.Invariant.View.{Nodes, Seats, claim_at, Marked, Unmarked, relink, Linked}
use Rattle.rules.proofs.Invariant.Phases.{outside_busy}
use Rattle.rules.proofs.Invariant.Clauses.{Named, NodeShape, OnList, Seen, from_head, from_prev, from_cur, Ordered, Ahead, reader_comes, writer_comes, Invariant}
use Rattle.rules.proofs.Invariant.Known.{Known, seen_pos, seen_on, known_named, named_proper, own_pos, hidden}

-- links are changed, each the head's or that of a node in use, to what names a node
pub relink_shape : {N : ℕ} {n : Nodes} (new : ℕ → ℕ) → NodeShape N n
    → ((a : ℕ) → (new a ≡ n.link a) ⊎ (Named N (claim_at n) a × Named N (claim_at n) (new a))) → NodeShape N (relink n new)
relink_shape new h f = record {
  head_unmarked = h.head_unmarked;
  blank_or_proper = λ a pos. elim (f a) [
    | inr x ↦ inr (named_proper x.0 pos)
    | inl e ↦ elim (h.blank_or_proper a pos) [
      | inl b ↦ inl (record { start_0 = b.start_0; end_0 = b.end_0; kind_0 = b.kind_0; mark_0 = b.mark_0; link_0 = e ∙ b.link_0 })
      | inr c ↦ inr c
    ]
  ];
  marks = h.marks;
  links = λ a. elim (f a) [ inl e ↦ rw e (h.links a) | inr x ↦ x.1 ];
}

module _ {N : ℕ} {n : Nodes} {s : Seats} (v : Invariant N n s) (new : ℕ → ℕ) (p out : ℕ) (known_p : Known n.link s p)
    (out_pos : 0 < out) (out_marked : Marked n out) (joined : n.link p ≡ out) (new_p : new p ≡ n.link out)
    (old : (a : ℕ) → a ≢ p → new a ≡ n.link a) where
  not_out : {a : ℕ} → Unmarked n a → a ≢ out
  not_out f e = f (ap n.mark e ∙ out_marked)

  adds_none : {b a : ℕ} → Reach new b a → Reach n.link b a
  adds_none r = unlink_adds_none n.link new p out out_pos joined new_p old r

  keeps : {b a : ℕ} → Unmarked n b → Reach n.link b a → Reach new b a
  keeps f r = unlink_keeps_reach n.link new p out out_pos joined new_p old (not_out f) r

  on_list_was : {a : ℕ} → OnList new a → OnList n.link a
  on_list_was r = unlink_adds_none_to_list n.link new p out out_pos joined new_p old r

  on_list_keeps : {a : ℕ} → Unmarked n a → OnList n.link a → OnList new a
  on_list_keeps f r = unlink_keeps_list n.link new p out out_pos joined new_p old (not_out f) r

  seen_was : {a : ℕ} → Seen new s a → Seen n.link s a
  seen_was (from_head r) = from_head (on_list_was r)
  seen_was (from_prev j r) = from_prev j (adds_none r)
  seen_was (from_cur j r) = from_cur j (adds_none r)

  ordered : {a : ℕ} → Seen n.link s a → 0 < new a → Ordered (claim_at n a) (claim_at n (new a))
  ordered {a} z h =
      if_same a p
      (λ e. let e₁ : n.link a ≡ out = ap n.link e ∙ joined in
      let e₂ : new a ≡ n.link out = ap new e ∙ new_p in
      let a₁ : Ordered (claim_at n a) (claim_at n out) = rw e₁ at (v.ordered z (rw e₁ out_pos)) in
      let b₁ = v.ordered (seen_on z (there (seen_pos z) (rw e₁ (here out_pos)))) (rw e₂ at h) in
      rw e₂ (record { starts = omega arith; writer_ends = λ k. let c = a₁.writer_ends k in omega arith }))
      (λ d. rw (old a d) (v.ordered z (rw (old a d) at h)))

  ahead : (g w : ℕ) → Linked (s.phase g) → Linked (s.phase w) → Ahead n.link s g w → Ahead new s g w
  ahead g w lg lw (reader_comes h r) = reader_comes h (keeps (v.linked w lw).unmarked r)
  ahead g w lg lw (writer_comes h r) = writer_comes h (keeps (v.linked g lg).unmarked r)

  -- a node that is not seen is not the one whose link changes
  hidden_not_p : (o : ℕ) → 0 < o → (Seen n.link s o → ⊥) → o ≢ p
  hidden_not_p o h f e = elim known_p [ inl z ↦ omega arith | inr z ↦ f (rw e z) ]

  pub unlink_keeps : Invariant N (relink n new) s
  unlink_keeps = record {
    nodes = relink_shape new v.nodes
        (λ a. if_same a p (λ e. inr (rw e (known_named v known_p), rw (e, new_p) (v.nodes.links out))) (λ d. inl (old a d)));
    seats = v.seats;
    distinct = v.distinct;
    outside = λ i o. let q = v.outside i o in
        record { unmarked = q.unmarked; last = old (s.own i) (hidden_not_p (s.own i) (own_pos v i (outside_busy o)) (hidden v o)) ∙ q.last };
    linked = λ i l. let q = v.linked i l in record { unmarked = q.unmarked; on_list = on_list_keeps q.unmarked q.on_list };
    owner = λ r. v.owner (on_list_was r);
    seen_listed = λ z e. on_list_keeps e (v.seen_listed (seen_was z) e);
    ordered = λ z. ordered (seen_was z);
    ends = λ z. let w = v.ends (seen_was z) in
        let k = unlink_keeps_ends n.link new p out out_pos joined new_p old w.1 in (k.0, k.1);
    passed = v.passed;
    stuck = v.stuck;
    reader_cur = v.reader_cur;
    unsettled = λ g w lg lw a b c d. ahead g w lg lw (v.unsettled g w lg lw a b c d);
  }
