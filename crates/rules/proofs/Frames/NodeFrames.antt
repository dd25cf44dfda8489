-- What each call leaves of the nodes. Over any tables.
use Prim.Native.Nat.{ℕ, zero, suc, ◌<◌}
use mathlib.Core.Path.{◌≡◌, refl, sym, ap, ◌∙◌}
use mathlib.Core.Bool.{true, false}
use mathlib.Core.List.{List, [], ◌∷◌}
use mathlib.Core.Logic.{◌≢◌, ◌⊎◌, inl, inr}
use native.Mathlib.Omega.{arith}
use borrow.Author.Tests.{eqb-false, eq-eqb}
use Rattle.rules.specs.Notation.{◌is◌}
use Rattle.rules.specs.Tables.{Tables, tables, count_at, node_width, node_count, start_at, end_at, kind_at, mark_at, next_at, own_at, node_word, marked, next, head, phase, own, prev, cur, set_count, set_node, set_link, set_mark, clear_seat}
use Rattle.rules.specs.Comparison.{Claim, claim_of}
use Rattle.rules.specs.Reach.{met, listed}
use Rattle.rules.specs.Fetch.{Fetched, fetch, kept_from, kept, link_through, taken_out, write_claim, reserve_for, take_node}
use Rattle.rules.specs.Answers.{Answer, Done}
use Rattle.rules.specs.Steps.{move_to, link_in, pass, kind_of, hold, withdraw, leave, refetched, entering}
use Rattle.rules.specs.Calls.{reserved, reserve, enter, step, release}
use Rattle.rules.specs.Apart.{Stands, NodesKept, NoNode, NoPlace, FetchKept}
use Rattle.rules.proofs.Ground.Logic.{branch, or_left, or_right}
use Rattle.rules.proofs.Laws.Words.{node_put_field, node_put_node, node_put_link, link_put_field, link_put_other, top_put_node, top_put_link, top_put_other, node_put_top, link_put_top, count_low, count_not_head, put_node_length, put_link_length, put_top_length}
use Rattle.rules.proofs.Laws.Listed.{met_first}
use Rattle.rules.proofs.Rules.Effects.{Room}
use Rattle.rules.proofs.Rules.RuleEffects.{reserve_stored}
use Rattle.rules.proofs.Laws.NodesAlone.{taken_out_profile, taken_out_seats}
use Rattle.rules.proofs.Frames.SeatFrames.{sound_room}
use Rattle.rules.proofs.Rules.Reasons.{Unlinking, takes_out, goes_past, as_reader, as_writer, on_sheet, Inserting, links_in, restarts, rereads, Walking, inserts, unlinks, passes, waits, walks, Waking, wakes, stays, wakes_to_walk, wakes_to_validate, reader_holds, reader_unlinks, reader_passes, reader_waits, writer_holds, writer_unlinks, writer_passes, withdraws, Validating, validates_reader, validates_writer, validates, by_phase_1, by_phase_2, by_phase_3, by_phase_4, by_phase_5, by_phase_6, Fetching, found, found_then, none, fetching as fetching_of}
use Rattle.rules.proofs.Rules.Accepting.{Reserving, reserve_refused, reserve_accepted, reserving, Entering, enter_refused, enter_accepted, enters, step_or_same, Releasing, release_refused, release_accepted, releasing}

-- ---- keeping, in general
pub kept_same : {L M C P : ℕ → Type 0} (t : Tables) → NodesKept L M C P t t
kept_same t = record { same_profile = refl; link_of = λ a d. refl; mark_of = λ a d. refl; claim_kept = λ a d. refl; word_at = λ i h n d. refl; same_length = refl }

pub kept_then : {L M C P : ℕ → Type 0} {t u v : Tables} → NodesKept L M C P t u → NodesKept L M C P u v → NodesKept L M C P t v
kept_then f g = record {
  same_profile = g.same_profile ∙ f.same_profile;
  link_of = λ a d. g.link_of a d ∙ f.link_of a d;
  mark_of = λ a d. g.mark_of a d ∙ f.mark_of a d;
  claim_kept = λ a d. g.claim_kept a d ∙ f.claim_kept a d;
  word_at = λ i h n d. g.word_at i (rw f.same_profile h) n d ∙ f.word_at i h n d;
  same_length = g.same_length ∙ f.same_length;
}

-- more may have changed
pub kept_but : {L M C P L' M' C' P' : ℕ → Type 0} {t u : Tables} → ((a : ℕ) → L a → L' a) → ((a : ℕ) → M a → M' a) → ((a : ℕ) → C a → C' a)
    → ((i : ℕ) → P i → P' i) → NodesKept L M C P t u → NodesKept L' M' C' P' t u
kept_but l m c p f = record {
  same_profile = f.same_profile;
  link_of = λ a d. f.link_of a (λ x. d (l a x));
  mark_of = λ a d. f.mark_of a (λ x. d (m a x));
  claim_kept = λ a d. f.claim_kept a (λ x. d (c a x));
  word_at = λ i h n d. f.word_at i h n (λ x. d (p i x));
  same_length = f.same_length;
}

-- ---- stores
abbrev Just : ℕ → ℕ → Type 0
Just a b = b ≡ a

same_claim : (t u : Tables) (a : ℕ)
    → ((f : ℕ) → f < node_width → f ≢ next_at → f ≢ mark_at → node_word u.sheet u.nodes a f ≡ node_word t.sheet t.nodes a f) → claim_of u a ≡ claim_of t a
same_claim t u a e = λ i. record {
  start = e start_at (omega arith) (omega arith) (omega arith) i;
  end = e end_at (omega arith) (omega arith) (omega arith) i;
  kind = e kind_at (omega arith) (omega arith) (omega arith) i;
}

link_kept : (t : Tables) (a v : ℕ) → NodesKept (Just a) NoNode NoNode NoPlace t (set_link t a v)
link_kept t a v = record {
  same_profile = refl;
  link_of = λ b d. link_put_other t.sheet t.nodes a b v (λ e. d (sym e));
  mark_of = λ b d. node_put_link t.sheet t.nodes a b mark_at v (omega arith) (omega arith);
  claim_kept = λ b d. same_claim t (set_link t a v) b (λ f h x y. node_put_link t.sheet t.nodes a b f v h x);
  word_at = λ i h n d. top_put_link t.sheet t.nodes i a v h n;
  same_length = put_link_length t.sheet t.nodes a v;
}

mark_kept : (t : Tables) (a v : ℕ) → NodesKept NoNode (Just a) NoNode NoPlace t (set_mark t a v)
mark_kept t a v = record {
  same_profile = refl;
  link_of = λ b d. link_put_field t.sheet t.nodes a b mark_at v (omega arith) (omega arith);
  mark_of = λ b d. node_put_node t.sheet t.nodes a b mark_at mark_at v (omega arith) (omega arith) (λ e. d (sym e));
  claim_kept = λ b d. same_claim t (set_mark t a v) b (λ f h x y. node_put_field t.sheet t.nodes a b mark_at f v (omega arith) h (λ e. y (sym e)));
  word_at = λ i h n d. top_put_node t.sheet t.nodes i a mark_at v h;
  same_length = put_node_length t.sheet t.nodes a mark_at v;
}

-- a word of a claim
word_kept : (t : Tables) (f a v : ℕ) → f < node_width → f ≢ next_at → f ≢ mark_at → NodesKept NoNode NoNode (Just a) NoPlace t (set_node f t a v)
word_kept t f a v h x y = record {
  same_profile = refl;
  link_of = λ b d. link_put_field t.sheet t.nodes a b f v h x;
  mark_of = λ b d. node_put_field t.sheet t.nodes a b f mark_at v h (omega arith) y;
  claim_kept = λ b d. same_claim t (set_node f t a v) b (λ g k x y. node_put_node t.sheet t.nodes a b f g v h k (λ e. d (sym e)));
  word_at = λ i l n d. top_put_node t.sheet t.nodes i a f v l;
  same_length = put_node_length t.sheet t.nodes a f v;
}

-- a count
count_kept : (t : Tables) (k v : ℕ) → NodesKept NoNode NoNode NoNode (Just (count_at k)) t (set_count t k v)
count_kept t k v = record {
  same_profile = refl;
  link_of = λ b d. link_put_top t.sheet t.nodes (count_at k) b v (count_low t.sheet k) (count_not_head k);
  mark_of = λ b d. node_put_top t.sheet t.nodes (count_at k) b mark_at v (count_low t.sheet k);
  claim_kept = λ b d. same_claim t (set_count t k v) b (λ f h x y. node_put_top t.sheet t.nodes (count_at k) b f v (count_low t.sheet k));
  word_at = λ i h n d. top_put_other t.nodes (count_at k) i v (λ e. d (sym e));
  same_length = put_top_length t.nodes (count_at k) v;
}

-- ---- what the seats do changes no node
seats_aside : {L M C P : ℕ → Type 0} {t u : Tables} {seats : List ℕ} → NodesKept L M C P t u → NodesKept L M C P t (tables u.sheet u.nodes seats)
seats_aside f = record { same_profile = f.same_profile; link_of = f.link_of; mark_of = f.mark_of; claim_kept = f.claim_kept; word_at = f.word_at; same_length = f.same_length }

pub only_seats : {L M C P : ℕ → Type 0} {t : Tables} {seats : List ℕ} → NodesKept L M C P t (tables t.sheet t.nodes seats)
only_seats {t = t} = seats_aside (kept_same t)

-- ---- phase 1: the links of own and prev
abbrev pub OwnOrPrev : Tables → ℕ → ℕ → Type 0
OwnOrPrev t s a = (a ≡ own t s) ⊎ (a ≡ prev t s)

abbrev pub Prev : Tables → ℕ → ℕ → Type 0
Prev t s a = a ≡ prev t s

abbrev pub Own : Tables → ℕ → ℕ → Type 0
Own t s a = a ≡ own t s

-- the count of the seat's kind
abbrev pub OwnCount : Tables → ℕ → ℕ → Type 0
OwnCount t s i = i ≡ count_at (kind_of t s)

module _ (t : Tables) (s : ℕ) where
  unlinking : {u : Tables} → Unlinking t s u → NodesKept (Prev t s) NoNode NoNode NoPlace t u
  unlinking (takes_out j) = seats_aside (link_kept t (prev t s) (next t (cur t s)))
  unlinking (goes_past e) = only_seats

  unlinked : {u : Tables} → Unlinking t s u → NodesKept (Prev t s) (Own t s) NoNode NoPlace t u
  unlinked w = kept_but (λ a x. x) (λ a x. absurd x) (λ a x. x) (λ i x. x) (unlinking w)

  pub linking_in : NodesKept (OwnOrPrev t s) NoNode NoNode NoPlace t (link_in t s)
  unfolding link_in
  linking_in =
      kept_then
      (kept_but (λ a x. inl x) (λ a x. x) (λ a x. x) (λ i x. x) (link_kept t (own t s) (cur t s)))
      (kept_but (λ a x. inr x) (λ a x. x) (λ a x. x) (λ i x. x) (link_kept (set_link t (own t s) (cur t s)) (prev t s) (own t s)))

  -- linking in changes no seat and no claim
  pub linked_kind : kind_of (link_in t s) s ≡ kind_of t s
  unfolding link_in
  linked_kind = ap (λ (c : Claim). c.kind) (linking_in.claim_kept (own t s) (λ z. z))

  -- on a sheet the claim may come to hold, and then there is a count too
  abbrev Walked : Tables → Type 0
  Walked u = ((t.sheet ≡ true) × (u ≡ hold (link_in t s) s)) ⊎ NodesKept (OwnOrPrev t s) NoNode NoNode NoPlace t u

  inserting : {u : Tables} → Inserting t s u → Walked u
  inserting (links_in j (as_reader n k)) = inr (seats_aside linking_in)
  inserting (links_in j (as_writer n k)) = inr (seats_aside linking_in)
  inserting (links_in j (on_sheet q)) = inl (sym linking_in.same_profile ∙ q, refl)
  inserting (restarts j m) = inr only_seats
  inserting (rereads j m) = inr only_seats

  pub walking_unless_held : {u : Tables} → Walking t s u → Walked u
  unfolding pass
  walking_unless_held (inserts f w) = inserting w
  walking_unless_held (unlinks c m w) = inr (kept_but (λ a x. inr x) (λ a x. x) (λ a x. x) (λ i x. x) (unlinking w))
  walking_unless_held (passes c m f) = inr only_seats
  walking_unless_held (waits c m f f') = inr only_seats

  -- ---- phases 2 and 4: none
  pub waking : {P : ℕ} {u : Tables} → Waking t s P u → NodesKept NoNode NoNode NoNode NoPlace t u
  waking (wakes m) = only_seats
  waking (stays m) = only_seats

  -- ---- phase 3: the link of prev and the mark of own, unless the claim comes to hold, and then a count
  pub unless_held : {u : Tables} → Validating t s u → (u ≡ hold t s) ⊎ NodesKept (Prev t s) (Own t s) NoNode NoPlace t u
  unfolding pass withdraw
  unless_held (validates_reader k (reader_holds f)) = inl refl
  unless_held (validates_reader k (reader_unlinks c m w)) = inr (unlinked w)
  unless_held (validates_reader k (reader_passes c m f)) = inr only_seats
  unless_held (validates_reader k (reader_waits c m f h)) = inr only_seats
  unless_held (validates_writer k (writer_holds f)) = inl refl
  unless_held (validates_writer k (writer_unlinks d c m w)) = inr (unlinked w)
  unless_held (validates_writer k (writer_passes d c m f)) = inr only_seats
  unless_held (validates_writer k (withdraws d f)) = inr (seats_aside (kept_but (λ a x. absurd x) (λ a x. x) (λ a x. x) (λ i x. x) (mark_kept t (own t s) 1)))

  pub holding : NodesKept NoNode NoNode NoNode (OwnCount t s) t (hold t s)
  unfolding hold
  holding = kept_then {u = move_to t s 5 0 0} only_seats (count_kept (move_to t s 5 0 0) (kind_of t s) _)

  pub validating : {u : Tables} → Validating t s u → NodesKept (Prev t s) (Own t s) NoNode (OwnCount t s) t u
  validating w = elim (unless_held w) [
    | inl e ↦ rw e (kept_but (λ a x. absurd x) (λ a x. absurd x) (λ a x. x) (λ i x. x) holding)
    | inr f ↦ kept_but (λ a x. x) (λ a x. x) (λ a x. x) (λ i x. absurd x) f
  ]

  -- ---- release: the mark of own and a count
  pub leaving : NodesKept NoNode (Own t s) NoNode (OwnCount t s) t (leave t s)
  unfolding leave
  leaving =
      let u = clear_seat (set_mark t (own t s) 1) s in
      kept_then {u = u}
      (seats_aside (kept_but (λ a x. x) (λ a x. x) (λ a x. x) (λ i x. absurd x) (mark_kept t (own t s) 1)))
      (kept_but (λ a x. x) (λ a x. absurd x) (λ a x. x) (λ i x. x) (count_kept u (kind_of t s) _))

-- ---- phase 1, on either profile
abbrev pub OwnCountOnSheet : Tables → ℕ → ℕ → Type 0
OwnCountOnSheet t s i = (t.sheet ≡ true) × OwnCount t s i

pub walking : (t : Tables) (s : ℕ) {u : Tables} → Walking t s u → NodesKept (OwnOrPrev t s) NoNode NoNode (OwnCountOnSheet t s) t u
walking t s w = elim (walking_unless_held t s w) [
  | inl e ↦ rw e.1
      (kept_then
      (kept_but (λ a x. x) (λ a x. x) (λ a x. x) (λ i x. absurd x) (linking_in t s))
      (kept_but (λ a x. absurd x) (λ a x. x) (λ a x. x) (λ i x. (e.0, x ∙ ap count_at (linked_kind t s))) (holding (link_in t s) s)))
  | inr f ↦ kept_but (λ a x. x) (λ a x. x) (λ a x. x) (λ i x. absurd x) f
]

-- ---- fetch: the node taken and, where the marked ones are taken out first, the links of the head and of the claims that stand
module _ (t : Tables) (a : ℕ) (c : Claim) where
  taken_word : (u : Tables) (f v : ℕ) → f < node_width → f ≢ next_at → f ≢ mark_at → NodesKept (Just a) (Just a) (Just a) NoPlace u (set_node f u a v)
  taken_word u f v h x y = kept_but (λ b z. absurd z) (λ b z. absurd z) (λ b z. z) (λ i x. x) (word_kept u f a v h x y)

  writing : NodesKept (Just a) (Just a) (Just a) NoPlace t (write_claim t a c)
  unfolding write_claim
  writing =
      let t₁ = set_node start_at t a c.start in
      let t₂ = set_node end_at t₁ a c.end in
      let t₃ = set_node kind_at t₂ a c.kind in
      let t₄ = set_link t₃ a 0 in
      kept_then {u = t₁} (taken_word t start_at c.start (omega arith) (omega arith) (omega arith))
      (kept_then {u = t₂} (taken_word t₁ end_at c.end (omega arith) (omega arith) (omega arith))
      (kept_then {u = t₃} (taken_word t₂ kind_at c.kind (omega arith) (omega arith) (omega arith))
      (kept_then {u = t₄} (kept_but (λ b z. z) (λ b z. absurd z) (λ b z. absurd z) (λ i x. x) (link_kept t₃ a 0))
      (kept_but (λ b z. absurd z) (λ b z. z) (λ b z. absurd z) (λ i x. x) (mark_kept t₄ a 0)))))

  pub taking : (s : ℕ) → NodesKept (Just a) (Just a) (Just a) NoPlace t (take_node t s a c)
  unfolding take_node reserve_for
  taking s = seats_aside writing

data Among (x : ℕ) : List ℕ → Type 0 where
  first : {rest : List ℕ} → Among x (x ∷ rest)
  later : {a : ℕ} {rest : List ℕ} → Among x rest → Among x (a ∷ rest)

among_none : {x : ℕ} {l : List ℕ} → Among x l → l ≡ [] → ⊥
among_none first e = let z : ◌≡◌ {A = ℕ} 0 1 = cc in omega arith
among_none (later w) e = let z : ◌≡◌ {A = ℕ} 0 1 = cc in omega arith

among_more : {x a : ℕ} {rest : List ℕ} → Among x (a ∷ rest) → (x ≡ a) ⊎ Among x rest
among_more first = inl refl
among_more (later w) = inr w

-- what is kept of the list stands on it
kept_stands : (t : Tables) (x h a : ℕ) → Among x (kept_from h t a) → (met h t a x ≡ true) × (marked t x ≡ false)
unfolding kept_from
kept_stands t x zero a w = absurd (among_none w refl)
kept_stands t x (suc h) a w =
    branch (λ ks. Among x ks → (met (suc h) t a x ≡ true) × (marked t x ≡ false)) (a is 0)
    (λ z w. absurd (among_none w refl))
    (λ z. let d = eqb-false a 0 z in
    let on : met h t (next t a) x ≡ true → met (suc h) t a x ≡ true = λ e. met_first t x h a d (or_right (a is x) (met h t (next t a) x) e) in
    branch (λ ks. Among x ks → (met (suc h) t a x ≡ true) × (marked t x ≡ false)) (marked t a)
    (λ m w. let k = kept_stands t x h (next t a) w in (on k.0, k.1))
    (λ m w. elim (among_more {a = a} {rest = kept_from h t (next t a)} w) [
      | inl e ↦ (met_first t x h a d (or_left (a is x) (met h t (next t a) x) (eq-eqb a x (sym e))), ap (marked t) e ∙ m)
      | inr y ↦ let k = kept_stands t x h (next t a) y in (on k.0, k.1)
    ]))
    w

through_kept : (ks : List ℕ) (t : Tables) (p : ℕ) → NodesKept (λ b. (b ≡ p) ⊎ Among b ks) NoNode NoNode NoPlace t (link_through t p ks)
unfolding link_through
through_kept [] t p = kept_but (λ b x. inl x) (λ b x. x) (λ b x. x) (λ i x. x) (link_kept t p 0)
through_kept (a ∷ ks) t p =
    kept_then
    (kept_but (λ b x. inl x) (λ b x. x) (λ b x. x) (λ i x. x) (link_kept t p a))
    (kept_but (λ b x. inr (elim x [ inl e ↦ rw e first | inr y ↦ later y ])) (λ b x. x) (λ b x. x) (λ i x. x) (through_kept ks (set_link t p a) a))

abbrev HeadOrStands : Tables → ℕ → Type 0
HeadOrStands t b = (b ≡ 0) ⊎ Stands t b

pub taking_out : (t : Tables) → NodesKept (HeadOrStands t) NoNode NoNode NoPlace t (taken_out t)
unfolding taken_out kept listed
taking_out t =
    kept_but (λ b x. elim x [ inl e ↦ inl e | inr y ↦ inr (kept_stands t b (node_count t) (head t) y) ]) (λ b x. x) (λ b x. x) (λ i x. x)
    (through_kept (kept t) t 0)

abbrev pub FetchLinks : Tables → ℕ → ℕ → Type 0
FetchLinks t n b = (b ≡ n) ⊎ ((b ≡ 0) ⊎ Stands t b)

pub fetching : {t : Tables} {s : ℕ} {c : Claim} {f : Fetched} → Fetching t s c f
    → NodesKept (FetchLinks t f.node) (Just f.node) (Just f.node) NoPlace t f.after
fetching {t} {s} {c} (found a e z) = kept_but (λ b x. inl x) (λ b x. x) (λ b x. x) (λ i x. x) (taking t a c s)
fetching {t} {s} {c} (found_then a e e' z) =
    kept_then
    (kept_but (λ b x. inr x) (λ b x. absurd x) (λ b x. absurd x) (λ i x. x) (taking_out t))
    (kept_but (λ b x. inl x) (λ b x. x) (λ b x. x) (λ i x. x) (taking (taken_out t) a c s))
fetching {t} (none e e') = kept_same t

-- the node taken is the seat's own afterwards
taken_own : (t : Tables) (s a : ℕ) (c : Claim) → Room t s → own (take_node t s a c) s ≡ a
unfolding take_node write_claim reserve_for
taken_own t s a c r = (reserve_stored (write_claim t a c) s r a).at_s own_at (omega arith)

fetched_own : {t : Tables} {s : ℕ} {c : Claim} {f : Fetched} → Room t s → Fetching t s c f → f.node ≢ 0 → own f.after s ≡ f.node
fetched_own {t} {s} {c} r (found a e z) d = taken_own t s a c r
fetched_own {t} {s} {c} r (found_then a e e' z) d = taken_own (taken_out t) s a c (rw (taken_out_profile t, taken_out_seats t) r)
fetched_own r (none e e') d = absurd (d refl)

fetched_kept : {t : Tables} {s : ℕ} {c : Claim} {f : Fetched} → Room t s → Fetching t s c f → f.node ≢ 0 → FetchKept s t f.after
fetched_kept r w d = rw (fetched_own r w d) (fetching w)

-- ---- the calls
module _ (t : Tables) (s : ℕ) where
  pub step_1_kept : phase t s ≡ 1 → NodesKept (OwnOrPrev t s) NoNode NoNode (OwnCountOnSheet t s) t (step t s).after
  step_1_kept e = step_or_same t s (NodesKept (OwnOrPrev t s) NoNode NoNode (OwnCountOnSheet t s) t) (kept_same t) (λ x y z. rw (by_phase_1 t s e) (walking t s (walks t s)))

  pub step_2_kept : phase t s ≡ 2 → NodesKept NoNode NoNode NoNode NoPlace t (step t s).after
  step_2_kept e = step_or_same t s (NodesKept NoNode NoNode NoNode NoPlace t) (kept_same t) (λ x y z. rw (by_phase_2 t s e) (waking t s (wakes_to_walk t s)))

  pub step_3_kept : phase t s ≡ 3 → NodesKept (Prev t s) (Own t s) NoNode (OwnCount t s) t (step t s).after
  step_3_kept e = step_or_same t s (NodesKept (Prev t s) (Own t s) NoNode (OwnCount t s) t) (kept_same t) (λ x y z. rw (by_phase_3 t s e) (validating t s (validates t s)))

  pub step_4_kept : phase t s ≡ 4 → NodesKept NoNode NoNode NoNode NoPlace t (step t s).after
  step_4_kept e = step_or_same t s (NodesKept NoNode NoNode NoNode NoPlace t) (kept_same t) (λ x y z. rw (by_phase_4 t s e) (waking t s (wakes_to_validate t s)))

  pub step_5_kept : phase t s ≡ 5 → (step t s).after ≡ t
  step_5_kept e = step_or_same t s (λ u. u ≡ t) refl (λ x y z. rw (by_phase_5 t s e))

  pub step_6_kept : phase t s ≡ 6 → FetchKept s t (step t s).after
  unfolding refetched
  step_6_kept p =
      let c = claim_of t (own t s) in
      step_or_same t s (FetchKept s t) (kept_same t) (λ e h b.
      rw (by_phase_6 t s p)
      (branch (λ (d : Done Answer). FetchKept s t d.after) ((fetch t s c).node is 0)
      (λ q. kept_same t)
      (λ q. fetched_kept (sound_room t s e h) (fetching_of t s c) (eqb-false (fetch t s c).node 0 q))))

  -- enter reads the head, and leaves every word of the nodes as it is
  pub entering_kept : NodesKept NoNode NoNode NoNode NoPlace t (entering t s)
  unfolding entering
  entering_kept = only_seats

  pub enter_kept : NodesKept NoNode NoNode NoNode NoPlace t (enter t s).after
  enter_kept = entered (enters t s)
    where
      entered : {d : Done Answer} → Entering t s d → NodesKept NoNode NoNode NoNode NoPlace t d.after
      entered (enter_refused k r) = kept_same t
      entered (enter_accepted e h p) = entering_kept

  pub reserve_kept : (c : Claim) → FetchKept s t (reserve t s c).after
  reserve_kept c = reserved_kept (reserving t s c)
    where
      reserved_kept : {d : Done Answer} → Reserving t s c d → FetchKept s t d.after
      reserved_kept (reserve_refused k r) = kept_same t
      reserved_kept (reserve_accepted {f = f} e h p k i z w) = unfold reserved in
          branch (λ (d : Done Answer). FetchKept s t d.after) (f.node is 0)
          (λ q. kept_same t) (λ q. fetched_kept (sound_room t s e h) w (eqb-false f.node 0 q))

  pub release_kept : NodesKept NoNode (Own t s) NoNode (OwnCount t s) t (release t s).after
  release_kept = released (releasing t s)
    where
      released : {d : Done Answer} → Releasing t s d → NodesKept NoNode (Own t s) NoNode (OwnCount t s) t d.after
      released (release_refused k r) = kept_same t
      released (release_accepted e h p) = leaving t s
