-- Each test of the code, from the words that it read, is the test of the definition: one law for each way through the code.
use Rattle.std.specs.Prelude.{Ok, Err, if◌then◌else◌}
use Rattle.std.proofs.Common.{◌≡◌, ℕ, zero, suc, ◌+◌, ◌-◌, ◌%◌, ◌<◌, ◌≤◌, Bool, true, false, not, ◌&&◌, ◌||◌, eqb, ltb, leb, ◌≢◌, List, [], length, drop, sym, refl, ◌∙◌, inl, inr, add-one, arith, ltb-false, ltb-true, eq-eqb, ne_eqb, eqb-true, le-leb}
use borrow.Author.Tests.{not-true, not-false, eqb-false, lt-leb}
use Rattle.rules.specs.Notation.{◌≤?◌, all}
use Rattle.rules.specs.Tables.{Tables, tables, before_nodes, seat_width, title, count_word, node_word, link_word, seat_word, node_count_of, seat_count_of, start_at, end_at, kind_at, mark_at, phase_at, own_at, prev_at, cur_at}
use Rattle.rules.specs.Shape.{nodes_fit, seats_fit, lengths_fit, is_kind, may_claim, zero_node, claim_node, names, node_sound, may_be_in, is_phase, zero_seat, idle_or_owning, resting_at_zero, waiting_at_cur, seat_sound, counts_fit, ends_by, title_fits, ends_within, nodes_sound, seats_sound, sound}
use Rattle.rules.proofs.Ground.Logic.{clash, not_of, or_case, or_neither, and_left, all_fails, all_and}
use Rattle.rules.proofs.Laws.Words.{link_past}
use Rattle.rules.proofs.Laws.Shape.{MayBeIn, NoneOfSheet, phase_allowed, allowed_phase, none_left, nodes_fit_law, named, name_of, name_small, lengths_fit_law}
use Rattle.rules.proofs.Laws.NodesAlone.{ends_alone, nodes_alone, ends_by_alone}
use Rattle.words.specs.Parts.{with_zeros}
use Rattle.words.proofs.Places.{same_count}
use Rattle.shape.proofs.Part.{same_names, same_nodes, same_ends, same_seats, same_holders}
use Rattle.shape.specs.Parts.{least_kind, node_sound_by, nodes_sound_by, busy_sound, waiting_sound, resting_sound, ordinary_sound, seats_and_counts_sound, list_ends, if_sound}
use Rattle.rules.specs.declared.Refused.{Refused}
use Rattle.rules.specs.declared.Refused.TheVariants.{Damaged}
use Rattle.rules.proofs.Ground.Deciding.{if_same}

pub lengths_is : (sheet : Bool) (l t : List ℕ) (u v : Bool) → u ≡ nodes_fit (tables sheet l []) → v ≡ seats_fit (tables sheet [] t) → (u && v) ≡ lengths_fit (tables sheet l t)
unfolding lengths_fit nodes_fit seats_fit
lengths_is sheet l t u v p q = rw (p, q)

-- ---- the profile: what the code tests of it
pub least_small : (sheet : Bool) (x : ℕ) → x ≡ least_kind sheet → x ≤ 2
least_small true x e = omega arith
least_small false x e = omega arith

-- r is how far k lies above the least kind, in numbers that wrap
pub may_claim_is : (sheet : Bool) (k least r : ℕ) → least ≡ least_kind sheet → r < 4294967296 → (r + least) % 4294967296 ≡ k → leb r (2 - least) ≡ may_claim sheet k
unfolding may_claim is_kind
may_claim_is true k least r e h q =
    if_same k 2
    (λ z. rw (eq-eqb k 2 z) (le-leb r (2 - least) (omega arith)))
    (λ d. rw (ne_eqb k 2 d) (lt-leb r (2 - least) (omega arith)))
may_claim_is false k least r e h q =
    if_same k 1
    (λ z. rw (eq-eqb k 1 z) (le-leb r (2 - least) (omega arith)))
    (λ d. if_same k 2
    (λ z. rw (ne_eqb k 1 d, eq-eqb k 2 z) (le-leb r (2 - least) (omega arith)))
    (λ d'. rw (ne_eqb k 1 d, ne_eqb k 2 d') (lt-leb r (2 - least) (omega arith))))

-- no claim is of kind 0, and every seat may be idle
no_claim_of_0 : (sheet : Bool) → may_claim sheet 0 ≡ false
unfolding may_claim is_kind
no_claim_of_0 true = refl
no_claim_of_0 false = refl

may_be_idle : (sheet : Bool) → may_be_in sheet 0 ≡ true
unfolding may_be_in
may_be_idle true = refl
may_be_idle false = refl

-- in ordinary tables every phase up to 7
ordinary : (p : ℕ) → p ≤ 7 → MayBeIn false p
ordinary p l = (l, λ q. absurd (clash false q refl))

none_allowed : (sheet : Bool) (p : ℕ) → (MayBeIn sheet p → ⊥) → may_be_in sheet p ≡ false
none_allowed sheet p f = not_of (may_be_in sheet p) (λ e. f (phase_allowed sheet p e))

by_profile : (sheet b : Bool) → sheet ≡ false → (if sheet then false else b) ≡ b
by_profile true b e = absurd (clash true refl e)
by_profile false b e = refl

-- ---- a name
pub names_zero : (sheet : Bool) (l : List ℕ) (a : ℕ) → a ≡ 0 → true ≡ names (tables sheet l []) a
unfolding names
names_zero sheet l a e = rw (eq-eqb a 0 e)

module _ (sheet : Bool) (l : List ℕ) (n a : ℕ) (is_count : n ≡ node_count_of sheet l) where
  pub names_past : n < a → a ≢ 0 → false ≡ names (tables sheet l []) a
  unfolding names
  names_past h d = rw (ne_eqb a 0 d, ← is_count, lt-leb a n h)

  pub names_kind : (k : ℕ) (b : Bool) → b ≡ may_claim sheet k → k ≡ node_word sheet l a kind_at → a ≤ n → a ≢ 0 → b ≡ names (tables sheet l []) a
  unfolding names
  names_kind k b p q h d = rw (ne_eqb a 0 d, ← is_count, le-leb a n h, ← q) p

named_small : (sheet : Bool) (l : List ℕ) (a : ℕ) → names (tables sheet l []) a ≡ true → leb a (node_count_of sheet l) ≡ true
named_small sheet l a e = le-leb a (node_count_of sheet l) (name_small (tables sheet l []) a (named (tables sheet l []) a e))

-- ---- a node: of kind 0, or a claim. What is named is at most N, so that a claim's next is not held to N again
zero_case : (a b c d z : Bool) → (c ≡ true → z ≡ true) → (a && b && c && d) ≡ ((a && b && true && c && d || false) && z)
zero_case true true true true z f = sym (f refl)
zero_case true true true false z f = refl
zero_case true true false d z f = refl
zero_case true false c d z f = refl
zero_case false b c d z f = refl

and_false : (b : Bool) → (b && false) ≡ false
and_false true = refl
and_false false = refl

-- what ends at 0 ends within any title
zero_within : (a b c d w : Bool) → (b ≡ true → w ≡ true) → (a && b && c && d) ≡ (w && (a && b && c && d))
zero_within a true c d w f = rw (f refl)
zero_within true false c d w f = sym (and_false w)
zero_within false false c d w f = sym (and_false w)

-- with its next named, a claim's next is at most N
claim_case : (u v w y : Bool) → (u && v && w && y) ≡ (w && ((u && v && true && y) && true))
claim_case true true true true = refl
claim_case true true true false = refl
claim_case true true false y = refl
claim_case true false w y = sym (and_false w)
claim_case false v w y = sym (and_false w)

no_zero : (a b c d : Bool) → (a && b && false && c && d) ≡ false
no_zero true true c d = refl
no_zero true false c d = refl
no_zero false b c d = refl

module _ (sheet : Bool) (l : List ℕ) (frames a x y k next m : ℕ) (is_mark : m ≡ node_word sheet l a mark_at) (is_next_here : next ≡ link_word sheet l a) (is_kind_of : k ≡ node_word sheet l a kind_at)
    (is_end : y ≡ node_word sheet l a end_at) (is_start : x ≡ node_word sheet l a start_at) where
  zero_sound : k ≡ 0 → (eqb x 0 && eqb y 0 && eqb next 0 && eqb m 0) ≡ node_sound (tables sheet l []) a
  unfolding node_sound zero_node claim_node
  zero_sound e =
      let q : node_word sheet l a kind_at ≡ 0 = sym is_kind_of ∙ e in
      rw (is_mark, is_next_here, is_end, is_start, q, no_claim_of_0 sheet)
      (zero_case (eqb (node_word sheet l a start_at) 0) (eqb (node_word sheet l a end_at) 0) (eqb (link_word sheet l a) 0) (eqb (node_word sheet l a mark_at) 0) (names (tables sheet l []) (link_word sheet l a))
      (λ z. sym (names_zero sheet l (link_word sheet l a) (eqb-true (link_word sheet l a) 0 z))))

  pub node_zero : k ≡ 0 → (eqb x 0 && eqb y 0 && eqb next 0 && eqb m 0) ≡ node_sound_by (tables sheet l []) frames a
  node_zero e =
      rw (← zero_sound e, ← is_end)
      (zero_within (eqb x 0) (eqb y 0) (eqb next 0) (eqb m 0) (leb y frames) (λ z. le-leb y frames (let q = eqb-true y 0 z in omega arith)))

  module _ (v : Bool) (is_named : v ≡ names (tables sheet l []) next) (some : k ≢ 0) where
    pub node_lost : not v ≡ true → false ≡ node_sound_by (tables sheet l []) frames a
    unfolding node_sound
    node_lost e =
        let q : names (tables sheet l []) (link_word sheet l a) ≡ false = rw is_next_here at (sym is_named ∙ not-true v e) in
        rw (q, and_false (zero_node (tables sheet l []) a || claim_node (tables sheet l []) a)) (sym (and_false (node_word sheet l a end_at ≤? frames)))

    pub node_claim : (u : Bool) → u ≡ may_claim sheet k → not v ≡ false → (u && ltb x y && leb y frames && leb m 1) ≡ node_sound_by (tables sheet l []) frames a
    unfolding node_sound zero_node claim_node
    node_claim u q e =
        let w : names (tables sheet l []) (link_word sheet l a) ≡ true = rw is_next_here at (sym is_named ∙ not-false v e) in
        rw (
          q,
          is_mark,
          is_kind_of,
          is_end,
          is_start,
          w,
          named_small sheet l (link_word sheet l a) w,
          ne_eqb (node_word sheet l a kind_at) 0 (λ z. some (is_kind_of ∙ z)),
          no_zero (eqb (node_word sheet l a start_at) 0) (eqb (node_word sheet l a end_at) 0) (eqb (link_word sheet l a) 0) (eqb (node_word sheet l a mark_at) 0),
        )
        (claim_case (may_claim sheet (node_word sheet l a kind_at)) (ltb (node_word sheet l a start_at) (node_word sheet l a end_at)) (leb (node_word sheet l a end_at) frames) (leb (node_word sheet l a mark_at) 1))

-- ---- every node
unfoldable pub nodes_below : Bool → List ℕ → ℕ → ℕ → Bool
nodes_below sheet l frames i = all i (λ m. node_sound_by (tables sheet l []) frames (m + 1))

both_clauses : (sheet : Bool) (l : List ℕ) (frames : ℕ) → nodes_below sheet l frames (node_count_of sheet l) ≡ nodes_sound_by (tables sheet l []) frames
unfolding nodes_below nodes_sound ends_by
both_clauses sheet l frames = all_and (node_count_of sheet l) (λ m. node_word sheet l (m + 1) end_at ≤? frames) (λ m. node_sound (tables sheet l []) (m + 1))

pub nodes_none : (sheet : Bool) (l : List ℕ) (frames : ℕ) → nodes_below sheet l frames 0 ≡ true
unfolding nodes_below all
nodes_none sheet l frames = refl

pub nodes_more : (sheet : Bool) (l : List ℕ) (frames i : ℕ) (b : Bool) → nodes_below sheet l frames i ≡ true → b ≡ node_sound_by (tables sheet l []) frames (i + 1) → b ≡ true → nodes_below sheet l frames (i + 1) ≡ true
unfolding nodes_below all
nodes_more sheet l frames i b h p q = rw (add-one i, h, ← p, q)

pub nodes_fail : (sheet : Bool) (l : List ℕ) (frames n i : ℕ) (b : Bool) → b ≡ node_sound_by (tables sheet l []) frames (i + 1) → b ≡ false → i < n → n ≡ node_count_of sheet l → false ≡ nodes_sound_by (tables sheet l []) frames
unfolding nodes_below
nodes_fail sheet l frames n i b p q h e =
    sym (all_fails (node_count_of sheet l) i (λ m. node_sound_by (tables sheet l []) frames (m + 1)) (rw e at h) (sym p ∙ q)) ∙ both_clauses sheet l frames

pub nodes_all : (sheet : Bool) (l : List ℕ) (frames n i : ℕ) → nodes_below sheet l frames i ≡ true → n ≤ i → i ≤ n → n ≡ node_count_of sheet l → true ≡ nodes_sound_by (tables sheet l []) frames
nodes_all sheet l frames n i h a b e = let q : i ≡ node_count_of sheet l = omega arith in rw (← both_clauses sheet l frames, ← q) (sym h)

-- ---- own, prev and cur
module _ (sheet : Bool) (l : List ℕ) (o v c : ℕ) where
  pub own_none : o ≡ 0 → false ≡ busy_sound (tables sheet l []) o v c
  own_none e = rw (eq-eqb o 0 e)

  module _ (x : Bool) (is_own : x ≡ names (tables sheet l []) o) where
    pub own_lost : not x ≡ true → false ≡ busy_sound (tables sheet l []) o v c
    own_lost e = rw (sym is_own ∙ not-true x e, and_false (not (eqb o 0)))

    module _ (y : Bool) (is_prev : y ≡ names (tables sheet l []) v) (owns : not x ≡ false) (some : o ≢ 0) where
      pub prev_lost : not y ≡ true → false ≡ busy_sound (tables sheet l []) o v c
      prev_lost e = rw (ne_eqb o 0 some, sym is_own ∙ not-false x owns, sym is_prev ∙ not-true y e)

      pub all_named : (z : Bool) → z ≡ names (tables sheet l []) c → not y ≡ false → z ≡ busy_sound (tables sheet l []) o v c
      all_named z is_cur e = rw (ne_eqb o 0 some, sym is_own ∙ not-false x owns, sym is_prev ∙ not-false y e) is_cur

  pub waits_nowhere : c ≡ 0 → false ≡ waiting_sound (tables sheet l []) o v c
  waits_nowhere e = rw (eq-eqb c 0 e)

  pub waits_at_cur : (w : Bool) → w ≡ busy_sound (tables sheet l []) o v c → c ≢ 0 → w ≡ waiting_sound (tables sheet l []) o v c
  waits_at_cur w q d = rw (ne_eqb c 0 d) q

  -- the test before own is looked up
  rests_case : (a b d w : Bool) → (not a && b && d && w) ≡ (not (a || not b || not d) && w)
  rests_case true b d w = refl
  rests_case false false d w = refl
  rests_case false true false w = refl
  rests_case false true true w = refl

  pub rests_not : (eqb o 0 || not (eqb v 0) || not (eqb c 0)) ≡ true → false ≡ resting_sound (tables sheet l []) o v c
  rests_not e = rw (rests_case (eqb o 0) (eqb v 0) (eqb c 0) (names (tables sheet l []) o), e)

  pub rests : (w : Bool) → w ≡ names (tables sheet l []) o → (eqb o 0 || not (eqb v 0) || not (eqb c 0)) ≡ false → w ≡ resting_sound (tables sheet l []) o v c
  rests w q e = rw (rests_case (eqb o 0) (eqb v 0) (eqb c 0) (names (tables sheet l []) o), e) q

-- ---- in the phases that a sheet lacks
module _ (sheet : Bool) (l : List ℕ) (p o v c : ℕ) where
  pub lacks : sheet ≡ true → false ≡ ordinary_sound (tables sheet l []) p o v c
  lacks e = sym (rw e)

  module _ (w : Bool) (e : sheet ≡ false) where
    pub has_3 : w ≡ busy_sound (tables sheet l []) o v c → p ≡ 3 → w ≡ ordinary_sound (tables sheet l []) p o v c
    has_3 h q = h ∙ rw (eq-eqb p 3 q) (sym (by_profile sheet _ e))

    pub has_4 : w ≡ waiting_sound (tables sheet l []) o v c → p ≡ 4 → w ≡ ordinary_sound (tables sheet l []) p o v c
    has_4 h q = h ∙ rw (ne_eqb p 3 (omega arith), eq-eqb p 4 q) (sym (by_profile sheet _ e))

    pub has_other : w ≡ resting_sound (tables sheet l []) o v c → p ≢ 3 → p ≢ 4 → w ≡ ordinary_sound (tables sheet l []) p o v c
    has_other h d d' = h ∙ rw (ne_eqb p 3 d, ne_eqb p 4 d') (sym (by_profile sheet _ e))

-- ---- a seat by its phase
idle_case : (a b c f g h : Bool) → (a ≡ true → f ≡ true) → (b ≡ true → g ≡ true) → (c ≡ true → h ≡ true)
    → (a && b && c) ≡ (a && b && c && true && true && f && g && h)
idle_case true true true f g h p q r = rw (p refl, q refl, r refl)
idle_case true true false f g h p q r = refl
idle_case true false c f g h p q r = refl
idle_case false b c f g h p q r = refl

foot_case : (a f g h : Bool) → (a && f && g && h) ≡ (a && true && true && f && g && h)
foot_case true f g h = refl
foot_case false f g h = refl

waiting_case : (a c f g h : Bool) → (c && (a && f && g && h)) ≡ (a && true && c && f && g && h)
waiting_case true true f g h = refl
waiting_case true false f g h = refl
waiting_case false true f g h = refl
waiting_case false false f g h = refl

-- a name that is 0 is not looked up
resting_case : (a b c f g h : Bool) → (b ≡ true → g ≡ true) → (c ≡ true → h ≡ true) → (a && b && c && f) ≡ (a && (b && c) && true && f && g && h)
resting_case true true true true g h q r = rw (q refl, r refl)
resting_case true true true false g h q r = refl
resting_case true true false f g h q r = refl
resting_case true false c f g h q r = refl
resting_case false b c f g h q r = refl

-- The code tests the four words that have a name, and a seat has no others, in either profile: where it gets more of them, this fails, and the code
-- has to test those too.
four_words : (sheet : Bool) (t : List ℕ) (s : ℕ) → all (seat_width sheet) (λ field. eqb (seat_word sheet t s field) 0)
    ≡ (eqb (seat_word sheet t s phase_at) 0 && eqb (seat_word sheet t s own_at) 0 && eqb (seat_word sheet t s prev_at) 0 && eqb (seat_word sheet t s cur_at) 0)
unfolding all
four_words true t s = refl
four_words false t s = refl

module _ (sheet : Bool) (l t : List ℕ) (s p o v c : ℕ) (is_cur : c ≡ seat_word sheet t s cur_at) (is_prev : v ≡ seat_word sheet t s prev_at) (is_own : o ≡ seat_word sheet t s own_at) (is_phase_of : p ≡ seat_word sheet t s phase_at) where
  zero_named : (a : ℕ) → eqb a 0 ≡ true → names (tables sheet l []) a ≡ true
  zero_named a z = name_of (tables sheet l []) a (inl (eqb-true a 0 z))

  pub seat_idle : p ≡ 0 → (eqb o 0 && eqb v 0 && eqb c 0) ≡ seat_sound (tables sheet l t) s
  unfolding seat_sound is_phase zero_seat idle_or_owning resting_at_zero waiting_at_cur names
  seat_idle e =
      rw (four_words sheet t s, ← is_phase_of, ← is_cur, ← is_prev, ← is_own, e, may_be_idle sheet)
      (idle_case (eqb o 0) (eqb v 0) (eqb c 0) (names (tables sheet l []) o) (names (tables sheet l []) v) (names (tables sheet l []) c) (zero_named o) (zero_named v) (zero_named c))

  -- what each clause says of a seat in a phase from 1 to 7
  clauses : Bool → Bool → Bool
  clauses resting waiting = not (eqb o 0) && resting && waiting && names (tables sheet l []) o && names (tables sheet l []) v && names (tables sheet l []) c

  in_phase : (P : ℕ) → p ≡ P → P ≢ 0 → MayBeIn sheet P → clauses (not (eqb P 5 || eqb P 6 || eqb P 7) || eqb v 0 && eqb c 0) (not (eqb P 2 || eqb P 4) || not (eqb c 0)) ≡ seat_sound (tables sheet l t) s
  unfolding seat_sound is_phase idle_or_owning resting_at_zero waiting_at_cur names clauses
  in_phase P e d h = rw (← is_phase_of, ← is_cur, ← is_prev, ← is_own, e, ne_eqb P 0 d, allowed_phase sheet P h)

  -- walking or validating; waiting; at rest
  on_foot : busy_sound (tables sheet l []) o v c ≡ clauses true true
  unfolding clauses
  on_foot = foot_case (not (eqb o 0)) (names (tables sheet l []) o) (names (tables sheet l []) v) (names (tables sheet l []) c)

  waited : waiting_sound (tables sheet l []) o v c ≡ clauses true (not (eqb c 0))
  unfolding clauses
  waited = waiting_case (not (eqb o 0)) (not (eqb c 0)) (names (tables sheet l []) o) (names (tables sheet l []) v) (names (tables sheet l []) c)

  rested : resting_sound (tables sheet l []) o v c ≡ clauses (eqb v 0 && eqb c 0) true
  unfolding clauses
  rested = resting_case (not (eqb o 0)) (eqb v 0) (eqb c 0) (names (tables sheet l []) o) (names (tables sheet l []) v) (names (tables sheet l []) c) (zero_named v) (zero_named c)

  pub seat_walking : (w : Bool) → w ≡ busy_sound (tables sheet l []) o v c → p ≡ 1 → w ≡ seat_sound (tables sheet l t) s
  unfolding clauses
  seat_walking w h e = h ∙ on_foot ∙ in_phase 1 e (omega arith) (omega arith, λ q. (omega arith, omega arith, omega arith))

  pub seat_waiting : (w : Bool) → w ≡ waiting_sound (tables sheet l []) o v c → p ≡ 2 → w ≡ seat_sound (tables sheet l t) s
  unfolding clauses
  seat_waiting w h e = h ∙ waited ∙ in_phase 2 e (omega arith) (omega arith, λ q. (omega arith, omega arith, omega arith))

  pub seat_holding : (w : Bool) → w ≡ resting_sound (tables sheet l []) o v c → p ≡ 5 → w ≡ seat_sound (tables sheet l t) s
  unfolding clauses
  seat_holding w h e = h ∙ rested ∙ in_phase 5 e (omega arith) (omega arith, λ q. (omega arith, omega arith, omega arith))

  pub seat_resting : (w : Bool) → w ≡ resting_sound (tables sheet l []) o v c → p ≡ 7 → w ≡ seat_sound (tables sheet l t) s
  unfolding clauses
  seat_resting w h e = h ∙ rested ∙ in_phase 7 e (omega arith) (omega arith, λ q. (omega arith, omega arith, omega arith))

  pub seat_no_phase : p ≢ 0 → p ≢ 1 → p ≢ 2 → p ≢ 3 → p ≢ 4 → p ≢ 5 → p ≢ 6 → p ≢ 7 → false ≡ seat_sound (tables sheet l t) s
  unfolding seat_sound is_phase
  seat_no_phase d₀ d₁ d₂ d₃ d₄ d₅ d₆ d₇ = rw (← is_phase_of, none_allowed sheet p (λ w. none_left p w.0 d₀ d₁ d₂ d₃ d₄ d₅ d₆ d₇))

-- 3, 4 and 6, by the profile
module _ (l t : List ℕ) (s p o v c : ℕ) where
  abbrev Reads : Bool → Type 0
  Reads sheet = (c ≡ seat_word sheet t s cur_at) × (v ≡ seat_word sheet t s prev_at) × (o ≡ seat_word sheet t s own_at) × (p ≡ seat_word sheet t s phase_at)

  lacking : Reads true → (NoneOfSheet true p → ⊥) → false ≡ seat_sound (tables true l t) s
  unfolding seat_sound is_phase
  lacking r n = rw (← r.3, none_allowed true p (λ m. n m.1))

  in_3 : (sheet : Bool) → Reads sheet → p ≡ 3 → ordinary_sound (tables sheet l []) p o v c ≡ seat_sound (tables sheet l t) s
  in_3 true r e = lacking r (λ n. (n refl).0 e)
  in_3 false r e =
      rw (eq-eqb p 3 e)
      (on_foot false l t s p o v c r.0 r.1 r.2 r.3
      ∙ (unfold clauses in in_phase false l t s p o v c r.0 r.1 r.2 r.3 3 e (omega arith) (ordinary 3 (omega arith))))

  in_4 : (sheet : Bool) → Reads sheet → p ≡ 4 → ordinary_sound (tables sheet l []) p o v c ≡ seat_sound (tables sheet l t) s
  in_4 true r e = lacking r (λ n. (n refl).1 e)
  in_4 false r e =
      rw (ne_eqb p 3 (omega arith), eq-eqb p 4 e)
      (waited false l t s p o v c r.0 r.1 r.2 r.3
      ∙ (unfold clauses in in_phase false l t s p o v c r.0 r.1 r.2 r.3 4 e (omega arith) (ordinary 4 (omega arith))))

  in_6 : (sheet : Bool) → Reads sheet → p ≡ 6 → ordinary_sound (tables sheet l []) p o v c ≡ seat_sound (tables sheet l t) s
  in_6 true r e = lacking r (λ n. (n refl).2 e)
  in_6 false r e =
      rw (ne_eqb p 3 (omega arith), ne_eqb p 4 (omega arith))
      (rested false l t s p o v c r.0 r.1 r.2 r.3
      ∙ (unfold clauses in in_phase false l t s p o v c r.0 r.1 r.2 r.3 6 e (omega arith) (ordinary 6 (omega arith))))

module _ (sheet : Bool) (l t : List ℕ) (s p o v c : ℕ) (is_cur : c ≡ seat_word sheet t s cur_at) (is_prev : v ≡ seat_word sheet t s prev_at) (is_own : o ≡ seat_word sheet t s own_at) (is_phase_of : p ≡ seat_word sheet t s phase_at)
    (w : Bool) (is_ordinary : w ≡ ordinary_sound (tables sheet l []) p o v c) where
  pub seat_validating : p ≡ 3 → w ≡ seat_sound (tables sheet l t) s
  seat_validating e = is_ordinary ∙ in_3 l t s p o v c sheet (is_cur, is_prev, is_own, is_phase_of) e

  pub seat_reader_waiting : p ≡ 4 → w ≡ seat_sound (tables sheet l t) s
  seat_reader_waiting e = is_ordinary ∙ in_4 l t s p o v c sheet (is_cur, is_prev, is_own, is_phase_of) e

  pub seat_withdrawn : p ≡ 6 → w ≡ seat_sound (tables sheet l t) s
  seat_withdrawn e = is_ordinary ∙ in_6 l t s p o v c sheet (is_cur, is_prev, is_own, is_phase_of) e

-- ---- the walk along next: what is left gives the whole
ends_zero : (t : Tables) (left a : ℕ) → a ≡ 0 → ends_within left t a ≡ true
unfolding ends_within
ends_zero t zero a e = rw e
ends_zero t (suc left) a e = rw e

ends_next : (t : Tables) (left a : ℕ) → left ≢ 0 → a ≢ 0 → ends_within (left - 1) t (link_word t.sheet t.nodes a) ≡ ends_within left t a
unfolding ends_within
ends_next t zero a g h = absurd (g refl)
ends_next t (suc left) a g h = let e : suc left - 1 ≡ left = omega arith in rw (e, ne_eqb a 0 h)

pub within_some : (n a : ℕ) → (eqb a 0 || ltb n a) ≡ false → a ≢ 0
within_some n a e = eqb-false a 0 (or_neither (eqb a 0) (ltb n a) e).0

-- after k nodes
module _ (sheet : Bool) (l : List ℕ) (n k a : ℕ) (whole : ends_within (n - k) (tables sheet l []) a ≡ list_ends (tables sheet l [])) where
  pub ends_again : (x : ℕ) → x ≡ link_word sheet l a → k < n → (eqb a 0 || ltb n a) ≡ false → ends_within (n - (k + 1)) (tables sheet l []) x ≡ list_ends (tables sheet l [])
  ends_again x p h e =
      let one_less : n - (k + 1) ≡ n - k - 1 = omega arith in
      rw (one_less, p) (ends_next (tables sheet l []) (n - k) a (λ z. omega arith) (within_some n a e) ∙ whole)

  pub ends_left : n ≤ k → eqb a 0 ≡ list_ends (tables sheet l [])
  unfolding ends_within
  ends_left h = let none : n - k ≡ 0 = omega arith in rw none at whole

  -- 0, or past the last node, where the next reads 0
  pub ends_out : n ≡ node_count_of sheet l → nodes_fit (tables sheet l []) ≡ true → (eqb a 0 || ltb n a) ≡ true → k < n → true ≡ list_ends (tables sheet l [])
  ends_out is_count fit e h = elim (or_case (eqb a 0) (ltb n a) e) [
    | inl z ↦ sym (ends_zero (tables sheet l []) (n - k) a (eqb-true a 0 z)) ∙ whole
    | inr z ↦
        let past : node_count_of sheet l < a = rw is_count at (ltb-true n a z) in
        sym (ends_zero (tables sheet l []) (n - k - 1) (link_word sheet l a) (link_past (tables sheet l []) a (nodes_fit_law (tables sheet l []) fit).0 past))
        ∙ ends_next (tables sheet l []) (n - k) a (λ z. omega arith) (omega arith)
        ∙ whole
  ]

pub within_in : (sheet : Bool) (l : List ℕ) (n a : ℕ) → n ≡ node_count_of sheet l → (eqb a 0 || ltb n a) ≡ false → a ≤ node_count_of sheet l
within_in sheet l n a k e = rw (← k) (ltb-false n a (or_neither (eqb a 0) (ltb n a) e).1)

pub few_fit : (sheet : Bool) (l : List ℕ) (n : ℕ) → n ≡ node_count_of sheet l → nodes_fit (tables sheet l []) ≡ true → n ≤ 256
few_fit sheet l n k fit = rw k (nodes_fit_law (tables sheet l []) fit).2

pub nodes_of_fit : (sheet : Bool) (l t : List ℕ) → lengths_fit (tables sheet l t) ≡ true → nodes_fit (tables sheet l []) ≡ true
unfolding lengths_fit nodes_fit
nodes_of_fit sheet l t e = and_left (nodes_fit (tables sheet l [])) (seats_fit (tables sheet l t)) e

pub ends_all : (sheet : Bool) (l : List ℕ) (n a : ℕ) → n ≡ node_count_of sheet l → a ≡ link_word sheet l 0 → ends_within (n - 0) (tables sheet l []) a ≡ list_ends (tables sheet l [])
ends_all sheet l n a p q = let e : n - 0 ≡ n = omega arith in rw (e, p, q)

pub long_enough : (sheet : Bool) (l : List ℕ) → nodes_fit (tables sheet l []) ≡ true → before_nodes sheet ≤ length l
long_enough sheet l e = let h = (nodes_fit_law (tables sheet l []) e).0 in omega arith

-- ---- the whole, from the title and from what is found of the part from node 1 on
pub title_none : (sheet : Bool) (l t : List ℕ) (z : ℕ) → z ≡ title (tables sheet l []) → z ≡ 0 → lengths_fit (tables sheet l t) ≡ true → false ≡ sound (tables sheet l t)
unfolding sound title_fits
title_none sheet l t z p e fit = rw (fit, sym p ∙ e)

pub counts_part : (sheet : Bool) (l p : List ℕ) (n : ℕ) → p ≡ drop (before_nodes sheet) l → n ≡ node_count_of sheet l → n ≡ node_count_of sheet (with_zeros sheet p)
counts_part sheet l p n is_part e = rw is_part (e ∙ sym (same_count sheet l))

module _ (sheet : Bool) (l t p : List ℕ) (is_part : p ≡ with_zeros sheet (drop (before_nodes sheet) l)) where
  module _ (fit : lengths_fit (tables sheet l t) ≡ true) (z : ℕ) (is_title : z ≡ title (tables sheet l [])) (some_title : z ≢ 0)
      (b : Bool) (is_nodes : b ≡ nodes_sound_by (tables sheet p []) z) where
    has_title : 1 ≤? title (tables sheet l []) ≡ true
    has_title = le-leb 1 (title (tables sheet l [])) (let q = sym is_title in omega arith)

    nodes_are : (ends_by (tables sheet l t) (title (tables sheet l [])) && nodes_sound (tables sheet l t)) ≡ b
    nodes_are = rw (← is_title, ← ends_by_alone sheet l t z, ← same_ends sheet l z, ← nodes_alone sheet l t, ← same_nodes sheet l) (sym (rw is_part at is_nodes))

    pub nodes_not : not b ≡ true → false ≡ sound (tables sheet l t)
    unfolding sound title_fits
    nodes_not e = rw (fit, has_title, nodes_are, not-true b e)

    module _ (some : not b ≡ false) (h : ℕ) (is_head : h ≡ link_word sheet l 0) (c : Bool) (is_named : c ≡ names (tables sheet p []) h) where
      head_is : names (tables sheet l []) h ≡ c
      head_is = sym (same_names sheet l h) ∙ sym (rw is_part at is_named)

      pub head_not : not c ≡ true → false ≡ sound (tables sheet l t)
      unfolding sound title_fits names
      head_not e = rw (fit, has_title, nodes_are, not-false b some, ← is_head, head_is, not-true c e)

      module _ (found : not c ≡ false) (x y : ℕ) (is_writers : y ≡ count_word (tables sheet l []) 2) (is_readers : x ≡ count_word (tables sheet l []) 1)
          (d : Bool) (is_seats : d ≡ seats_and_counts_sound (tables sheet p t) x y) where
        seats_are : (seats_sound (tables sheet l t) && counts_fit (tables sheet l t)) ≡ d
        unfolding counts_fit
        seats_are = rw (← is_readers, ← is_writers, ← same_seats sheet l t, ← same_holders sheet l t 1, ← same_holders sheet l t 2) (sym (rw is_part at is_seats))

        pub seats_not : not d ≡ true → false ≡ sound (tables sheet l t)
        unfolding sound title_fits names
        seats_not e = rw (fit, has_title, nodes_are, not-false b some, ← is_head, head_is, not-false c found, seats_are, not-true d e)

        pub words_are : (r : Bool) → r ≡ list_ends (tables sheet l []) → not d ≡ false → r ≡ sound (tables sheet l t)
        unfolding sound title_fits names
        words_are r q e =
            rw (fit, has_title, nodes_are, not-false b some, ← is_head, head_is, not-false c found, seats_are, not-false d e, ← ends_alone sheet (node_count_of sheet l) l t h, is_head) q

pub sound_not : (sheet : Bool) (l t : List ℕ) (b : Bool) → b ≡ lengths_fit (tables sheet l t) → b ≡ false → false ≡ sound (tables sheet l t)
unfolding sound
sound_not sheet l t b q e = rw (← q, e)

pub fits : (sheet : Bool) (l t : List ℕ) (b : Bool) → b ≡ lengths_fit (tables sheet l t) → b ≡ true → lengths_fit (tables sheet l t) ≡ true
fits sheet l t b p q = sym p ∙ q

-- S is small where the lengths fit
pub few_seats : (sheet : Bool) (l t : List ℕ) (n : ℕ) → n ≡ seat_count_of sheet t → lengths_fit (tables sheet l t) ≡ true → n ≤ 64
few_seats sheet l t n e f = rw e (lengths_fit_law (tables sheet l t) f).few_seats

-- what a caller knows after the test
pub now_sound : (sheet : Bool) (l t : List ℕ) (b : Bool) → b ≡ sound (tables sheet l t) → b ≡ true → sound (tables sheet l t) ≡ true
now_sound sheet l t b p e = sym p ∙ e

-- ---- the tables as such, or refusal 1
by_test : (b : Bool) (t u : Tables) → Ok u ≡ (if b then Ok t else Err Damaged) → (b ≡ true) × (u ≡ t)
by_test true t u e = (refl, cc)
by_test false t u e = cc

by_refusal : (b : Bool) (t : Tables) (why : Refused) → Err why ≡ (if b then Ok t else Err Damaged) → (b ≡ false) × (why ≡ Damaged)
by_refusal true t why e = cc
by_refusal false t why e = (refl, cc)

pub lent_sound : (t u : Tables) → Ok u ≡ if_sound t → (sound t ≡ true) × (u ≡ t)
lent_sound t u e = by_test (sound t) t u e

pub not_lent : (t : Tables) (why : Refused) → Err why ≡ if_sound t → (sound t ≡ false) × (why ≡ Damaged)
not_lent t why e = by_refusal (sound t) t why e
