-- Sound shape as facts: a record with a field for each clause of the Bool test `sound`, and both ways between them.
use mathlib.Core.Path.{◌≡◌, refl}
use mathlib.Core.Bool.{Bool, true, false, not, ◌&&◌, ◌||◌}
use mathlib.Core.Logic.{◌≢◌, ◌⊎◌, inl, inr, ⊎_elim}
use mathlib.Core.List.{List}
use Prim.Native.Nat.{ℕ, zero, suc, ◌+◌, ◌*◌, ◌≤◌, ◌<◌}
use native.Mathlib.Omega.{arith}
use native.Mathlib.Numerals.{add-one}
use lib.ListN.{length}
use borrow.Author.Tests.{eqb-true, eqb-false, leb-true, leb-false, ltb-true, ltb-false, eq-eqb, ne_eqb, le-leb, lt-ltb}
use Rattle.rules.specs.Notation.{◌is◌, ◌≤?◌, ◌<?◌}
use Rattle.rules.specs.Tables.{Tables, tables, seat_count_of, node_count, seat_count, before_nodes, node_width, seat_width, end_at, phase_at, own_at, prev_at, cur_at, seat_word, readers, writers, count_word, title, start, end, kind, mark, link, next, head, phase, own, prev, cur}
use Rattle.rules.specs.Shape.{nodes_fit, seats_fit, lengths_fit, is_kind, may_claim, zero_node, claim_node, names, node_sound, may_be_in, is_phase, zero_seat, idle_or_owning, resting_at_zero, waiting_at_cur, seat_sound, holders_of_kind, counts_fit, ends_by, title_fits, ends_within, nodes_sound, seats_sound, sound}
use Rattle.rules.specs.Title.{AllWithin}
use Rattle.rules.proofs.Ground.Logic.{clash, either, or_left, or_right, or_case, and_left, and_right, and_both, both, all3, all4, all5, all7, not_true, of_not, branch, all_at, all_of}
use Rattle.rules.proofs.Ground.Deciding.{if_same}
use Rattle.rules.proofs.Laws.Words.{node_zero, node_past, link_past, seat_past}

-- ---- a kind
abbrev pub IsKind : ℕ → Type 0
IsKind k = (k ≡ 1) ⊎ (k ≡ 2)

pub is_kind_law : (k : ℕ) → is_kind k ≡ true → IsKind k
unfolding is_kind
is_kind_law k e = ⊎_elim (λ p. inl (eqb-true k 1 p)) (λ p. inr (eqb-true k 2 p)) (or_case (k is 1) (k is 2) e)

pub kind_is : (k : ℕ) → IsKind k → is_kind k ≡ true
unfolding is_kind
kind_is k (inl p) = or_left (k is 1) (k is 2) (eq-eqb k 1 p)
kind_is k (inr p) = or_right (k is 1) (k is 2) (eq-eqb k 2 p)

-- the kinds that a claim may have, by the profile
abbrev pub MayClaim : Bool → ℕ → Type 0
MayClaim sheet k = IsKind k × (sheet ≡ true → k ≢ 1)

pub may_claim_law : (sheet : Bool) (k : ℕ) → may_claim sheet k ≡ true → MayClaim sheet k
unfolding may_claim
may_claim_law true k e = let p = eqb-true k 2 e in (inr p, λ q. omega arith)
may_claim_law false k e = (is_kind_law k e, λ q. absurd (clash false q refl))

pub claim_may : (sheet : Bool) (k : ℕ) → MayClaim sheet k → may_claim sheet k ≡ true
unfolding may_claim
claim_may true k w = eq-eqb k 2 (elim w.0 [ inl p ↦ absurd (w.1 refl p) | inr p ↦ p ])
claim_may false k w = kind_is k w.0

-- ---- a name: 0, or a node of a kind that a claim may have
abbrev pub Names : Tables → ℕ → Type 0
Names t a = (a ≡ 0) ⊎ ((a ≤ node_count t) × MayClaim t.sheet (kind t a))

pub named : (t : Tables) (a : ℕ) → names t a ≡ true → Names t a
unfolding names
named t a e =
    ⊎_elim
    (λ p. inl (eqb-true a 0 p))
    (λ p. let w = both (a ≤? node_count t) (may_claim t.sheet (kind t a)) p in inr (leb-true a (node_count t) w.0, may_claim_law t.sheet (kind t a) w.1))
    (or_case (a is 0) (a ≤? node_count t && may_claim t.sheet (kind t a)) e)

pub name_of : (t : Tables) (a : ℕ) → Names t a → names t a ≡ true
unfolding names
name_of t a (inl p) = or_left (a is 0) (a ≤? node_count t && may_claim t.sheet (kind t a)) (eq-eqb a 0 p)
name_of t a (inr p) =
    or_right (a is 0) (a ≤? node_count t && may_claim t.sheet (kind t a))
    (and_both (a ≤? node_count t) (may_claim t.sheet (kind t a)) (le-leb a (node_count t) p.0) (claim_may t.sheet (kind t a) p.1))

pub name_small : (t : Tables) (a : ℕ) → Names t a → a ≤ node_count t
name_small t a (inl p) = omega arith
name_small t a (inr p) = p.0

-- ---- a node
pub record ZeroNode (t : Tables) (a : ℕ) : Type 0 where
  pub start_zero : start t a ≡ 0
  pub end_zero : end t a ≡ 0
  pub kind_zero : kind t a ≡ 0
  pub next_zero : next t a ≡ 0
  pub mark_zero : mark t a ≡ 0

pub record ClaimNode (t : Tables) (a : ℕ) : Type 0 where
  pub a_kind : MayClaim t.sheet (kind t a)
  pub some : start t a < end t a
  pub next_small : next t a ≤ node_count t
  pub mark_small : mark t a ≤ 1

pub zero_node_law : (t : Tables) (a : ℕ) → zero_node t a ≡ true → ZeroNode t a
unfolding zero_node
zero_node_law t a e =
    let w = all5 (start t a is 0) (end t a is 0) (kind t a is 0) (next t a is 0) (mark t a is 0) e in
    record {
      start_zero = eqb-true (start t a) 0 w.0;
      end_zero = eqb-true (end t a) 0 w.1;
      kind_zero = eqb-true (kind t a) 0 w.2;
      next_zero = eqb-true (next t a) 0 w.3;
      mark_zero = eqb-true (mark t a) 0 w.4;
    }

pub node_zero_is : (t : Tables) (a : ℕ) → ZeroNode t a → zero_node t a ≡ true
unfolding zero_node
node_zero_is t a z =
    rw (
      eq-eqb (start t a) 0 z.start_zero,
      eq-eqb (end t a) 0 z.end_zero,
      eq-eqb (kind t a) 0 z.kind_zero,
      eq-eqb (next t a) 0 z.next_zero,
      eq-eqb (mark t a) 0 z.mark_zero,
    )

pub claim_node_law : (t : Tables) (a : ℕ) → claim_node t a ≡ true → ClaimNode t a
unfolding claim_node
claim_node_law t a e =
    let w = all4 (may_claim t.sheet (kind t a)) (start t a <? end t a) (next t a ≤? node_count t) (mark t a ≤? 1) e in
    record {
      a_kind = may_claim_law t.sheet (kind t a) w.0;
      some = ltb-true (start t a) (end t a) w.1;
      next_small = leb-true (next t a) (node_count t) w.2;
      mark_small = leb-true (mark t a) 1 w.3;
    }

pub node_claim_is : (t : Tables) (a : ℕ) → ClaimNode t a → claim_node t a ≡ true
unfolding claim_node
node_claim_is t a c =
    rw (claim_may t.sheet (kind t a) c.a_kind, lt-ltb (start t a) (end t a) c.some, le-leb (next t a) (node_count t) c.next_small, le-leb (mark t a) 1 c.mark_small)

-- ---- a seat
-- the phases in which prev and cur are 0
pub data Resting (P : ℕ) : Type 0 where
  in_5 : P ≡ 5 → Resting P
  in_6 : P ≡ 6 → Resting P
  in_7 : P ≡ 7 → Resting P

-- the phases that a seat may be in, by the profile: on a sheet "there is no phase 3, 4 or 6"
abbrev pub NoneOfSheet : Bool → ℕ → Type 0
NoneOfSheet sheet P = sheet ≡ true → (P ≢ 3) × (P ≢ 4) × (P ≢ 6)

abbrev pub MayBeIn : Bool → ℕ → Type 0
MayBeIn sheet P = (P ≤ 7) × NoneOfSheet sheet P

pub phase_allowed : (sheet : Bool) (p : ℕ) → may_be_in sheet p ≡ true → MayBeIn sheet p
unfolding may_be_in
phase_allowed true p e =
    if_same p 0 (λ q. (omega arith, λ x. (omega arith, omega arith, omega arith))) (λ d₀.
    if_same p 1 (λ q. (omega arith, λ x. (omega arith, omega arith, omega arith))) (λ d₁.
    if_same p 2 (λ q. (omega arith, λ x. (omega arith, omega arith, omega arith))) (λ d₂.
    if_same p 5 (λ q. (omega arith, λ x. (omega arith, omega arith, omega arith))) (λ d₅.
    if_same p 7 (λ q. (omega arith, λ x. (omega arith, omega arith, omega arith))) (λ d₇.
    absurd (clash false (rw (ne_eqb p 0 d₀, ne_eqb p 1 d₁, ne_eqb p 2 d₂, ne_eqb p 5 d₅, ne_eqb p 7 d₇) at e) refl))))))
phase_allowed false p e = (leb-true p 7 e, λ q. absurd (clash false q refl))

-- a phase up to 7 is one of eight
below : (p n : ℕ) → p ≤ n + 1 → p ≢ n + 1 → p ≤ n
below p n l d = omega arith

at_zero : (p : ℕ) → p ≤ 0 → p ≡ 0
at_zero p l = omega arith

pub none_left : (p : ℕ) → p ≤ 7 → p ≢ 0 → p ≢ 1 → p ≢ 2 → p ≢ 3 → p ≢ 4 → p ≢ 5 → p ≢ 6 → p ≢ 7 → ⊥
none_left p l d₀ d₁ d₂ d₃ d₄ d₅ d₆ d₇ =
    d₀ (at_zero p (below p 0 (below p 1 (below p 2 (below p 3 (below p 4 (below p 5 (below p 6 l d₇) d₆) d₅) d₄) d₃) d₂) d₁))

pub allowed_phase : (sheet : Bool) (p : ℕ) → MayBeIn sheet p → may_be_in sheet p ≡ true
unfolding may_be_in
allowed_phase true p w =
    if_same p 0 (λ q. rw q) (λ d₀.
    if_same p 1 (λ q. rw q) (λ d₁.
    if_same p 2 (λ q. rw q) (λ d₂.
    if_same p 5 (λ q. rw q) (λ d₅.
    if_same p 7 (λ q. rw q) (λ d₇.
    if_same p 3 (λ q. absurd ((w.1 refl).0 q)) (λ d₃.
    if_same p 4 (λ q. absurd ((w.1 refl).1 q)) (λ d₄.
    if_same p 6 (λ q. absurd ((w.1 refl).2 q)) (λ d₆.
    absurd (none_left p w.0 d₀ d₁ d₂ d₃ d₄ d₅ d₆ d₇)))))))))
allowed_phase false p w = le-leb p 7 w.0

pub record SeatSound (t : Tables) (s : ℕ) : Type 0 where
  pub may_be_in_law : MayBeIn t.sheet (phase t s)
  pub idle : phase t s ≡ 0 → (f : ℕ) → f < seat_width t.sheet → seat_word t.sheet t.seats s f ≡ 0
  pub owning : phase t s ≢ 0 → own t s ≢ 0
  pub resting : Resting (phase t s) → (prev t s ≡ 0) × (cur t s ≡ 0)
  pub waiting : (phase t s ≡ 2) ⊎ (phase t s ≡ 4) → cur t s ≢ 0
  pub own_names : Names t (own t s)
  pub prev_names : Names t (prev t s)
  pub cur_names : Names t (cur t s)

-- "in these two phases, so": a test with two phases as its condition
two_phases : (p m n : ℕ) (b : Bool) → (not (p is m || p is n) || b) ≡ true → (p ≡ m) ⊎ (p ≡ n) → b ≡ true
two_phases p m n b e w =
    let y : (p is m || p is n) ≡ true = ⊎_elim (λ q. or_left (p is m) (p is n) (eq-eqb p m q)) (λ q. or_right (p is m) (p is n) (eq-eqb p n q)) w in
    rw y at e

two_phases_is : (p m n : ℕ) (b : Bool) → ((p ≡ m) ⊎ (p ≡ n) → b ≡ true) → (not (p is m || p is n) || b) ≡ true
two_phases_is p m n b f =
    ⊎_elim
    (λ y. or_right (not (p is m || p is n)) b (f (⊎_elim (λ q. inl (eqb-true p m q)) (λ q. inr (eqb-true p n q)) (or_case (p is m) (p is n) y))))
    (λ y. or_left (not (p is m || p is n)) b (of_not (p is m || p is n) y))
    (either (p is m || p is n))

rests : (p : ℕ) (b : Bool) → (not (p is 5 || p is 6 || p is 7) || b) ≡ true → Resting p → b ≡ true
rests p b e (in_5 q) = rw q at e
rests p b e (in_6 q) = rw q at e
rests p b e (in_7 q) = rw q at e

rests_is : (p : ℕ) (b : Bool) → (Resting p → b ≡ true) → (not (p is 5 || p is 6 || p is 7) || b) ≡ true
rests_is p b f =
    if_same p 5 (λ q. rw (q, f (in_5 q))) (λ d₅.
    if_same p 6 (λ q. rw (q, f (in_6 q))) (λ d₆.
    if_same p 7 (λ q. rw (q, f (in_7 q))) (λ d₇.
    rw (ne_eqb p 5 d₅, ne_eqb p 6 d₆, ne_eqb p 7 d₇))))

-- idle with zeros, or busy with an own node
module _ (t : Tables) (s : ℕ) where
  zeros_of : idle_or_owning t s ≡ true → phase t s ≡ 0 → (f : ℕ) → f < seat_width t.sheet → seat_word t.sheet t.seats s f ≡ 0
  unfolding idle_or_owning zero_seat
  zeros_of e z f h =
      eqb-true (seat_word t.sheet t.seats s f) 0 (all_at (seat_width t.sheet) f (λ f. seat_word t.sheet t.seats s f is 0) (rw (eq-eqb (phase t s) 0 z) at e) h)

  owning_of : idle_or_owning t s ≡ true → phase t s ≢ 0 → own t s ≢ 0
  unfolding idle_or_owning
  owning_of e z = eqb-false (own t s) 0 (not_true (own t s is 0) (rw (ne_eqb (phase t s) 0 z) at e))

  idle_or_owning_law : SeatSound t s → idle_or_owning t s ≡ true
  unfolding idle_or_owning zero_seat
  idle_or_owning_law w =
      branch (λ b. b ≡ true) (phase t s is 0)
      (λ p. all_of (seat_width t.sheet) (λ f. seat_word t.sheet t.seats s f is 0) (λ f h. eq-eqb (seat_word t.sheet t.seats s f) 0 (w.idle (eqb-true (phase t s) 0 p) f h)))
      (λ p. of_not (own t s is 0) (ne_eqb (own t s) 0 (w.owning (eqb-false (phase t s) 0 p))))

  pub seat_is_sound : seat_sound t s ≡ true → SeatSound t s
  unfolding seat_sound is_phase resting_at_zero waiting_at_cur
  seat_is_sound e =
      let w = all7 (is_phase t s) (idle_or_owning t s) (resting_at_zero t s) (waiting_at_cur t s) (names t (own t s)) (names t (prev t s)) (names t (cur t s)) e in
      record {
        may_be_in_law = phase_allowed t.sheet (phase t s) w.0;
        idle = zeros_of w.1;
        owning = owning_of w.1;
        resting = λ p. let z = both (prev t s is 0) (cur t s is 0) (rests (phase t s) (prev t s is 0 && cur t s is 0) w.2 p) in
            (eqb-true (prev t s) 0 z.0, eqb-true (cur t s) 0 z.1);
        waiting = λ p. eqb-false (cur t s) 0 (not_true (cur t s is 0) (two_phases (phase t s) 2 4 (not (cur t s is 0)) w.3 p));
        own_names = named t (own t s) w.4;
        prev_names = named t (prev t s) w.5;
        cur_names = named t (cur t s) w.6;
      }

  pub seat_sound_is : SeatSound t s → seat_sound t s ≡ true
  unfolding seat_sound is_phase resting_at_zero waiting_at_cur
  seat_sound_is w =
      rw (
        allowed_phase t.sheet (phase t s) w.may_be_in_law,
        idle_or_owning_law w,
        rests_is (phase t s) (prev t s is 0 && cur t s is 0) (λ p. let z = w.resting p in rw (eq-eqb (prev t s) 0 z.0, eq-eqb (cur t s) 0 z.1)),
        two_phases_is (phase t s) 2 4 (not (cur t s is 0)) (λ p. rw (ne_eqb (cur t s) 0 (w.waiting p))),
        name_of t (own t s) w.own_names,
        name_of t (prev t s) w.prev_names,
        name_of t (cur t s) w.cur_names,
      )

-- ---- the lengths
pub record Fit (t : Tables) : Type 0 where
  pub nodes_length : length t.nodes ≡ before_nodes t.sheet + node_width * node_count t
  pub some_nodes : 1 ≤ node_count t
  pub few_nodes : node_count t ≤ 256
  pub seats_length : length t.seats ≡ seat_width t.sheet * seat_count t
  pub some_seats : 1 ≤ seat_count t
  pub few_seats : seat_count t ≤ 64

pub nodes_fit_law : (t : Tables) → nodes_fit t ≡ true → (length t.nodes ≡ before_nodes t.sheet + node_width * node_count t) × (1 ≤ node_count t) × (node_count t ≤ 256)
unfolding nodes_fit
nodes_fit_law t e =
    let f = all3 (length t.nodes is before_nodes t.sheet + node_width * node_count t) (1 ≤? node_count t) (node_count t ≤? 256) e in
    (eqb-true (length t.nodes) (before_nodes t.sheet + node_width * node_count t) f.0, leb-true 1 (node_count t) f.1, leb-true (node_count t) 256 f.2)

pub lengths_fit_law : (t : Tables) → lengths_fit t ≡ true → Fit t
unfolding lengths_fit seats_fit
lengths_fit_law t e =
    let y = both (nodes_fit t) (seats_fit t) e in
    let f = nodes_fit_law t y.0 in
    let g = all3 (length t.seats is seat_width t.sheet * seat_count t) (1 ≤? seat_count t) (seat_count t ≤? 64) y.1 in
    record {
      nodes_length = f.0;
      some_nodes = f.1;
      few_nodes = f.2;
      seats_length = eqb-true (length t.seats) (seat_width t.sheet * seat_count t) g.0;
      some_seats = leb-true 1 (seat_count t) g.1;
      few_seats = leb-true (seat_count t) 64 g.2;
    }

-- ---- the two counts: of each kind the word says how many hold
abbrev pub Counts : Tables → Type 0
Counts t = (k : ℕ) → IsKind k → count_word t k ≡ holders_of_kind t k

counts_fit_law : (t : Tables) → counts_fit t ≡ true → Counts t
unfolding counts_fit
counts_fit_law t e k (inl p) = rw p (eqb-true (readers t) (holders_of_kind t 1) (and_left (readers t is holders_of_kind t 1) (writers t is holders_of_kind t 2) e))
counts_fit_law t e k (inr p) = rw p (eqb-true (writers t) (holders_of_kind t 2) (and_right (readers t is holders_of_kind t 1) (writers t is holders_of_kind t 2) e))

counts_fit_is : (t : Tables) → Counts t → counts_fit t ≡ true
unfolding counts_fit
counts_fit_is t c =
    and_both (readers t is holders_of_kind t 1) (writers t is holders_of_kind t 2)
    (eq-eqb (readers t) (holders_of_kind t 1) (c 1 (inl refl))) (eq-eqb (writers t) (holders_of_kind t 2) (c 2 (inr refl)))

-- ---- the title: a node past the last one, and node 0, read as ending at 0
title_fits_law : (t : Tables) → length t.nodes ≡ before_nodes t.sheet + node_width * node_count t → title_fits t ≡ true → AllWithin t
unfolding title_fits ends_by
title_fits_law t long e = record { some = leb-true 1 (title t) w.0; within = within }
  where
    w : (1 ≤? title t ≡ true) × (ends_by t (title t) ≡ true)
    w = both (1 ≤? title t) (ends_by t (title t)) e

    within : (a : ℕ) → end t a ≤ title t
    within zero = rw (node_zero t.sheet t.nodes end_at) (omega arith)
    within (suc m) =
        ⊎_elim
        (λ p. rw (add-one m) at (leb-true (end t (m + 1)) (title t) (all_at (node_count t) m (λ m. end t (m + 1) ≤? title t) w.1 (ltb-true m (node_count t) p))))
        (λ p. rw (node_past t (suc m) end_at (omega arith) long (let q = ltb-false m (node_count t) p in omega arith)) (omega arith))
        (either (m <? node_count t))

title_fits_is : (t : Tables) → AllWithin t → title_fits t ≡ true
unfolding title_fits ends_by
title_fits_is t w =
    and_both (1 ≤? title t) (ends_by t (title t)) (le-leb 1 (title t) w.some)
    (all_of (node_count t) (λ m. end t (m + 1) ≤? title t) (λ m h. le-leb (end t (m + 1)) (title t) (w.within (m + 1))))

-- ---- the whole
pub record Sound (t : Tables) : Type 0 where
  pub nodes_length : length t.nodes ≡ before_nodes t.sheet + node_width * node_count t
  pub some_nodes : 1 ≤ node_count t
  pub few_nodes : node_count t ≤ 256
  pub seats_length : length t.seats ≡ seat_width t.sheet * seat_count t
  pub some_seats : 1 ≤ seat_count t
  pub few_seats : seat_count t ≤ 64
  pub all_within : AllWithin t
  pub node : (a : ℕ) → a ≢ 0 → a ≤ node_count t → ZeroNode t a ⊎ ClaimNode t a
  pub link_names : (a : ℕ) → Names t (link t a)
  pub seat : (s : ℕ) → SeatSound t s
  pub counts : Counts t
  pub ends : ends_within (node_count t) t (head t) ≡ true

-- a seat past the last one reads as idle
past_seat : (t : Tables) (s : ℕ) → length t.seats ≡ seat_width t.sheet * seat_count t → seat_count t ≤ s → SeatSound t s
past_seat t s e h =
    let p : phase t s ≡ 0 = seat_past t s phase_at e h in
    let o : own t s ≡ 0 = seat_past t s own_at e h in
    let v : prev t s ≡ 0 = seat_past t s prev_at e h in
    let c : cur t s ≡ 0 = seat_past t s cur_at e h in
    record {
      may_be_in_law = (omega arith, λ q. (omega arith, omega arith, omega arith));
      idle = λ z f k. seat_past t s f e h;
      owning = λ z. absurd (z p);
      resting = λ z. (v, c);
      waiting = λ z. absurd (elim z [ inl q ↦ omega arith | inr q ↦ omega arith ]);
      own_names = inl o;
      prev_names = inl v;
      cur_names = inl c;
    }

module _ (t : Tables) where
  node_of : nodes_sound t ≡ true → (a : ℕ) → a ≢ 0 → a ≤ node_count t → node_sound t a ≡ true
  unfolding nodes_sound
  node_of e zero z h = absurd (z refl)
  node_of e (suc m) z h = rw (add-one m) at (all_at (node_count t) m (λ m. node_sound t (m + 1)) e (omega arith))

  node_case : (a : ℕ) → node_sound t a ≡ true → ZeroNode t a ⊎ ClaimNode t a
  unfolding node_sound
  node_case a e =
      ⊎_elim
      (λ p. inl (zero_node_law t a p))
      (λ p. inr (claim_node_law t a p))
      (or_case (zero_node t a) (claim_node t a) (and_left (zero_node t a || claim_node t a) (names t (next t a)) e))

  node_names : (a : ℕ) → node_sound t a ≡ true → Names t (next t a)
  unfolding node_sound
  node_names a e = named t (next t a) (and_right (zero_node t a || claim_node t a) (names t (next t a)) e)

  links_name : length t.nodes ≡ before_nodes t.sheet + node_width * node_count t → nodes_sound t ≡ true → Names t (head t) → (a : ℕ) → Names t (link t a)
  links_name e ns h zero = h
  links_name e ns h (suc m) =
      ⊎_elim
      (λ p. node_names (suc m) (node_of ns (suc m) (λ z. omega arith) (leb-true (suc m) (node_count t) p)))
      (λ p. inl (link_past t (suc m) e (leb-false (suc m) (node_count t) p)))
      (either (suc m ≤? node_count t))

  seats_all : length t.seats ≡ seat_width t.sheet * seat_count t → seats_sound t ≡ true → (s : ℕ) → SeatSound t s
  unfolding seats_sound
  seats_all e ss s =
      ⊎_elim
      (λ p. seat_is_sound t s (all_at (seat_count t) s (seat_sound t) ss (ltb-true s (seat_count t) p)))
      (λ p. past_seat t s e (ltb-false s (seat_count t) p))
      (either (s <? seat_count t))

  pub is_sound : sound t ≡ true → Sound t
  unfolding sound
  is_sound e =
      let w = all7 (lengths_fit t) (title_fits t) (nodes_sound t) (names t (head t)) (seats_sound t) (counts_fit t) (ends_within (node_count t) t (head t)) e in
      let fit = lengths_fit_law t w.0 in
      record {
        nodes_length = fit.nodes_length;
        some_nodes = fit.some_nodes;
        few_nodes = fit.few_nodes;
        seats_length = fit.seats_length;
        some_seats = fit.some_seats;
        few_seats = fit.few_seats;
        all_within = title_fits_law t fit.nodes_length w.1;
        node = λ a z h. node_case a (node_of w.2 a z h);
        link_names = links_name fit.nodes_length w.2 (named t (head t) w.3);
        seat = seats_all fit.seats_length w.4;
        counts = counts_fit_law t w.5;
        ends = w.6;
      }

  -- the other way
  node_sound_is : Sound t → (a : ℕ) → a ≢ 0 → a ≤ node_count t → node_sound t a ≡ true
  unfolding node_sound
  node_sound_is w a z h =
      and_both (zero_node t a || claim_node t a) (names t (next t a))
      (⊎_elim (λ p. or_left (zero_node t a) (claim_node t a) (node_zero_is t a p)) (λ p. or_right (zero_node t a) (claim_node t a) (node_claim_is t a p)) (w.node a z h))
      (name_of t (next t a) (w.link_names a))

  nodes_sound_is : Sound t → nodes_sound t ≡ true
  unfolding nodes_sound
  nodes_sound_is w = all_of (node_count t) (λ m. node_sound t (m + 1)) (λ m h. node_sound_is w (m + 1) (λ z. omega arith) (omega arith))

  seats_sound_is : Sound t → seats_sound t ≡ true
  unfolding seats_sound
  seats_sound_is w = all_of (seat_count t) (seat_sound t) (λ s h. seat_sound_is t s (w.seat s))

  pub lengths_fit_is : Sound t → lengths_fit t ≡ true
  unfolding lengths_fit nodes_fit seats_fit
  lengths_fit_is w =
      and_both (nodes_fit t) (seats_fit t)
      (and_both (length t.nodes is before_nodes t.sheet + node_width * node_count t && 1 ≤? node_count t) (node_count t ≤? 256)
      (and_both (length t.nodes is before_nodes t.sheet + node_width * node_count t) (1 ≤? node_count t)
      (eq-eqb (length t.nodes) (before_nodes t.sheet + node_width * node_count t) w.nodes_length) (le-leb 1 (node_count t) w.some_nodes))
      (le-leb (node_count t) 256 w.few_nodes))
      (and_both (length t.seats is seat_width t.sheet * seat_count t && 1 ≤? seat_count t) (seat_count t ≤? 64)
      (and_both (length t.seats is seat_width t.sheet * seat_count t) (1 ≤? seat_count t)
      (eq-eqb (length t.seats) (seat_width t.sheet * seat_count t) w.seats_length) (le-leb 1 (seat_count t) w.some_seats))
      (le-leb (seat_count t) 64 w.few_seats))

  pub sound_is : Sound t → sound t ≡ true
  unfolding sound
  sound_is w = rw (lengths_fit_is w, title_fits_is t w.all_within, nodes_sound_is w, name_of t (head t) (w.link_names 0), seats_sound_is w, counts_fit_is t w.counts, w.ends)

-- S of sound tables, as the code counts it
pub seats_few : (sheet : Bool) (n t : List ℕ) (c : ℕ) → c ≡ seat_count_of sheet t → sound (tables sheet n t) ≡ true → c ≤ 64
seats_few sheet n t c e s = rw e (is_sound (tables sheet n t) s).few_seats
