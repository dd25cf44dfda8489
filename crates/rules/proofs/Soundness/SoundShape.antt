-- Sound shape in the theory's words: what the invariant says of the nodes and of each seat alone, and that the list ends. The changes
-- that keep it: a seat moves; a node is passed over, marked, or written anew. Tables that pass the test `sound` have it.
use Prim.Native.Nat.{ℕ, ◌≤◌, ◌<◌}
use mathlib.Core.Path.{◌≡◌, sym, ap, ◌∙◌, subst, refl}
use mathlib.Core.Bool.{true}
use mathlib.Core.List.{List}
use mathlib.Core.Logic.{◌≢◌, ◌⊎◌, inl, inr}
use native.Mathlib.Omega.{arith}
use native.Mathlib.Decide.{dec_lt}
use Rattle.rules.specs.Tables.{Tables, tables, node_count, seat_count, start_at, end_at, kind_at, mark_at, phase_at, own_at, prev_at, cur_at, mark, link, next, head, set_count, set_link, set_mark, kind}
use Rattle.rules.specs.Comparison.{Claim, claim_of}
use Rattle.rules.specs.Shape.{ends_within}
use Rattle.rules.specs.Fetch.{write_claim}
use Rattle.rules.proofs.Ground.Deciding.{if_same}
use Rattle.rules.proofs.Laws.Words.{link_put_same, link_put_other, link_put_field, node_put_link, node_put_same, node_put_field, node_put_node, node_zero, node_past, link_past}
use Rattle.rules.proofs.Laws.Shape.{Names, ClaimNode, Sound}
use Rattle.rules.proofs.Laws.Listed.{within_ends}
use Rattle.rules.proofs.Ground.Following.{ends_tail, unlink_keeps_ends, away_keeps_ends}
use Rattle.rules.proofs.Invariant.View.{Nodes, Seats, nodes_of, seats_of, claim_at, relink, remark, Reseated}
use Rattle.rules.proofs.Invariant.Clauses.{Named, nothing, node, Blank, NodeShape, SeatShape, OnList, Ending}
use Rattle.rules.specs.Refusing.{Proper, WritesOnSheet}
use Rattle.rules.proofs.Invariant.Unlink.{relink_shape}
use Rattle.rules.proofs.Invariant.Leave.{remark_shape}
use Rattle.rules.proofs.Invariant.Take.{Written, written_shape, seat_same}
use Rattle.rules.proofs.Rules.Effects.{Seated, reseated, same_nodes, only_links, only_marks}
use Rattle.rules.proofs.Keeping.Aside as aside
use Rattle.rules.proofs.Keeping.Aside.{SeatAside, Aside, node_room}
use Rattle.rules.proofs.Keeping.FetchKeeps.{written}

pub record SoundView (N : ℕ) (n : Nodes) (s : Seats) : Type 0 where
  pub nodes : NodeShape N n
  pub seats : (i : ℕ) → SeatShape N (claim_at n) (s.phase i) (s.own i) (s.prev i) (s.cur i)
  pub ends : Ending n.link (n.link 0)

-- ---- over the view
pub reseat_keeps_shape : {N : ℕ} {n : Nodes} {s u : Seats} {i P O Q C : ℕ} → SoundView N n s → Reseated s u i P O Q C
    → SeatShape N (claim_at n) P O Q C → SoundView N n u
reseat_keeps_shape {i = i} v m h = record {
  nodes = v.nodes;
  seats = λ j. if_same j i
      (λ e. rw (e, m.phase_i, m.own_i, m.prev_i, m.cur_i) h)
      (λ d. rw (m.phase_j j d, m.own_j j d, m.prev_j j d, m.cur_j j d) (v.seats j));
  ends = v.ends;
}

-- a node that links on has a claim
links_named : {N : ℕ} {n : Nodes} → NodeShape N n → (p : ℕ) → p ≤ N → n.link p ≢ 0 → Named N (claim_at n) p
links_named h p l d =
    if_same p 0 nothing
    (λ z. elim (h.blank_or_proper p (omega arith)) [ inl b ↦ absurd (d b.link_0) | inr c ↦ node (omega arith) l c ])

module _ {N : ℕ} {n : Nodes} {s : Seats} (v : SoundView N n s) where
  module _ (new : ℕ → ℕ) (p out : ℕ) (p_in : p ≤ N) (out_pos : 0 < out) (joined : n.link p ≡ out) (new_p : new p ≡ n.link out)
      (old : (a : ℕ) → a ≢ p → new a ≡ n.link a) where
    list_ends_law : Ending new (new 0)
    list_ends_law =
        if_same 0 p
        (λ e. let first : n.link 0 ≡ out = ap n.link e ∙ joined in
        let rest = ends_tail v.ends.1 (omega (arith, first)) in
        let k = unlink_keeps_ends n.link new p out out_pos joined new_p old rest.1 in
        rw (ap new e ∙ new_p ∙ ap n.link (sym first)) (k.0, k.1))
        (λ d. let k = unlink_keeps_ends n.link new p out out_pos joined new_p old v.ends.1 in rw (old 0 d) (k.0, k.1))

    pub pass_over_keeps_shape : SoundView N (relink n new) s
    pass_over_keeps_shape = record {
      nodes = relink_shape new v.nodes
          (λ a. if_same a p (λ e. inr (rw e (links_named v.nodes p p_in (rw joined (omega arith))), rw (e, new_p) (v.nodes.links out))) (λ d. inl (old a d)));
      seats = v.seats;
      ends = list_ends_law;
    }

  pub mark_keeps_shape : (new : ℕ → ℕ) (o : ℕ) → 0 < o → Proper (claim_at n o) → new o ≡ 1 → ((a : ℕ) → a ≢ o → new a ≡ n.mark a)
      → SoundView N (remark n new) s
  mark_keeps_shape new o pos c one old = record { nodes = remark_shape new o v.nodes pos c one old; seats = v.seats; ends = v.ends }

  pub write_keeps_shape : {n' : Nodes} (o : ℕ) → Written n n' o → 0 < o → (OnList n.link o → ⊥) → SoundView N n' s
  write_keeps_shape {n'} o w pos off = record {
    nodes = written_shape w pos v.nodes;
    seats = λ i. seat_same w (v.seats i);
    ends = let e = v.ends in rw (w.link_a 0 (omega arith)) (e.0, away_keeps_ends n.link n'.link o w.link_a off e.1);
  }

-- ---- over the tables
pub record Shaped (N S : ℕ) (t : Tables) : Type 0 where
  pub aside : Aside N S t
  pub view : SoundView N (nodes_of t) (seats_of t)

module _ {N S : ℕ} {t : Tables} (g : Shaped N S t) where
  pub seat_moves : {s : ℕ} {words : ℕ → ℕ} {seats : List ℕ} → Seated t.sheet t.seats seats s words → SeatAside t.sheet words
      → SeatShape N (claim_of t) (words phase_at) (words own_at) (words prev_at) (words cur_at) → Shaped N S (tables t.sheet t.nodes seats)
  seat_moves {seats = seats} w k h = record {
    aside = aside.seat_put g.aside w k;
    view = reseat_keeps_shape g.view (reseated t (tables t.sheet t.nodes seats) refl w) h;
  }

  pub link_passes_over : (p out : ℕ) → p ≤ N → out ≢ 0 → link t p ≡ out → Shaped N S (set_link t p (next t out))
  link_passes_over p out p_in d joins =
      let l = t.nodes in
      let v = next t out in
      record {
        aside = aside.link_put g.aside p v;
        view = subst (λ n. SoundView N n (seats_of t)) (only_links t (set_link t p v) (λ a f h d. node_put_link t.sheet l p a f v h d))
            (pass_over_keeps_shape g.view (link (set_link t p v)) p out p_in (omega arith) joins (link_put_same t.sheet l p v (node_room g.aside p p_in))
            (λ a d. link_put_other t.sheet l p a v (λ e. d (sym e))));
      }

  pub claim_marked : (o : ℕ) → o ≢ 0 → o ≤ N → Proper (claim_of t o) → Shaped N S (set_mark t o 1)
  claim_marked o d o_in c =
      let l = t.nodes in
      record {
        aside = aside.word_put g.aside mark_at o 1 (omega arith) (omega arith);
        view = subst (λ n. SoundView N n (seats_of t))
            (only_marks t (set_mark t o 1) (λ a f b d. node_put_field t.sheet l o a mark_at f 1 (omega arith) b (λ e. d (sym e)))
            (λ a. link_put_field t.sheet l o a mark_at 1 (omega arith) (omega arith)))
            (mark_keeps_shape g.view (mark (set_mark t o 1)) o (omega arith) c (node_put_same t.sheet l o mark_at 1 (omega arith) d (node_room g.aside o o_in))
            (λ a d. node_put_node t.sheet l o a mark_at mark_at 1 (omega arith) (omega arith) (λ e. d (sym e))));
      }

  pub claim_put : (a : ℕ) (c : Claim) → a ≢ 0 → a ≤ N → Proper c → WritesOnSheet t c → (OnList (link t) a → ⊥) → Shaped N S (write_claim t a c)
  unfolding write_claim
  claim_put a c d a_in p k off =
      let room = node_room g.aside a a_in in
      record {
        aside = aside.claim_put g.aside a c k;
        view = write_keeps_shape g.view a (written t a c d room p) (omega arith) off;
      }

  -- no part of it looks at a count
  pub count_put : (k v : ℕ) → Shaped N S (set_count t k v)
  count_put k v = record { aside = aside.count_put g.aside k v; view = subst (λ n. SoundView N n (seats_of t)) (same_nodes t k v) g.view }

-- ---- sound tables have it
pub list_ending : (t : Tables) → ends_within (node_count t) t (head t) ≡ true → Ending (link t) (head t)
list_ending t e = let w = within_ends t (node_count t) (head t) e in (w.0, w.1)

module _ {t : Tables} (w : Sound t) where
  -- a node past the last one reads as blank
  past_blank : (a : ℕ) → node_count t < a → Blank (nodes_of t) a
  past_blank a l = record {
    start_0 = node_past t a start_at (omega arith) w.nodes_length l;
    end_0 = node_past t a end_at (omega arith) w.nodes_length l;
    kind_0 = node_past t a kind_at (omega arith) w.nodes_length l;
    mark_0 = node_past t a mark_at (omega arith) w.nodes_length l;
    link_0 = link_past t a w.nodes_length l;
  }

  blank_or_claim : (a : ℕ) → a ≢ 0 → Blank (nodes_of t) a ⊎ ClaimNode t a
  blank_or_claim a z = elim (dec_lt (node_count t) a) [
    | yes l ↦ inl (past_blank a l)
    | no l ↦ elim (w.node a z (omega arith)) [
      | inl b ↦ inl (record { start_0 = b.start_zero; end_0 = b.end_zero; kind_0 = b.kind_zero; mark_0 = b.mark_zero; link_0 = b.next_zero })
      | inr c ↦ inr c
    ]
  ]

  proper_claim : {a : ℕ} → ClaimNode t a → Proper (claim_of t a)
  proper_claim c = record { some = c.some; reads_or_writes = c.a_kind.0 }

  named : {a : ℕ} → Names t a → Named (node_count t) (claim_of t) a
  named (inl e) = nothing e
  named {a} (inr q) =
      if_same a 0 nothing
      (λ z. elim (w.node a z q.0) [
        | inl b ↦ absurd (let k = b.kind_zero in elim q.1.0 [ inl e ↦ omega arith | inr e ↦ omega arith ])
        | inr c ↦ node (omega arith) q.0 (proper_claim c)
      ])

  small_mark : (a : ℕ) → mark t a ≤ 1
  small_mark a =
      if_same a 0
      (λ e. rw (e, node_zero t.sheet t.nodes mark_at) (omega arith))
      (λ z. elim (blank_or_claim a z) [ inl b ↦ (let k = b.mark_0 in omega arith) | inr c ↦ c.mark_small ])

  -- on a sheet no node reads: node 0 and what stands past the last one have no kind
  writers_there : t.sheet ≡ true → (a : ℕ) → kind t a ≢ 1
  writers_there q a =
      if_same a 0
      (λ e. rw (e, node_zero t.sheet t.nodes kind_at) (omega arith))
      (λ z. elim (blank_or_claim a z) [ inl b ↦ (let k = b.kind_0 in omega arith) | inr c ↦ c.a_kind.1 q ])

  pub sound_shaped : Shaped (node_count t) (seat_count t) t
  sound_shaped = record {
    aside = record {
      nodes_long = w.nodes_length;
      seats_long = w.seats_length;
      seat = λ s. record { phases = (w.seat s).may_be_in_law.1; idle = (w.seat s).idle };
      kinds = writers_there;
    };
    view = record {
      nodes = record {
        head_unmarked = node_zero t.sheet t.nodes mark_at;
        blank_or_proper = λ a z. elim (blank_or_claim a (omega arith)) [ inl b ↦ inl b | inr c ↦ inr (proper_claim c) ];
        marks = small_mark;
        links = λ a. named (w.link_names a);
      };
      seats = λ s. let h = w.seat s in record {
        has_phase = h.may_be_in_law.0;
        owning = λ b. let o = h.owning b in omega arith;
        resting = h.resting;
        at_cur = λ p. let c = h.waiting p in omega arith;
        own_named = named h.own_names;
        prev_named = named h.prev_names;
        cur_named = named h.cur_names;
      };
      ends = list_ending t w.ends;
    };
  }
