-- A step of a seat as one law for each way through the code: n and t are the tables before, n' and t' after.
use Prim.Native.Nat.{ℕ, ◌≤◌, ◌<◌, ◌+◌, ◌*◌}
use mathlib.Core.Path.{◌≡◌, refl, sym, ap, ◌∙◌}
use mathlib.Core.Bool.{Bool, true}
use mathlib.Core.List.{List, []}
use mathlib.Core.Logic.{◌≢◌}
use native.Mathlib.Omega.{arith}
use borrow.Author.Tests.{ne_eqb, le-leb, lt-leb}
use Rattle.rules.specs.Tables.{Tables, tables, seat_word, seat_count_of, phase_at, own_at, seat_width}
use Rattle.std.specs.Prelude.{Option, None, Some}
use Rattle.rules.specs.Comparison.{Claim, claim_of}
use Rattle.rules.specs.Shape.{sound}
use Rattle.rules.specs.Fetch.{fetch}
use Rattle.rules.specs.Answers.{Answer, Done, done, answered}
use Rattle.rules.specs.Steps.{walking, waiting_to_enter, validating, reader_waiting, refetched, withdrawn, entering, step_by_phase, kind_of}
use Rattle.rules.specs.Calls.{step}
use Rattle.rules.specs.Run.{refusal_of}
use Rattle.rules.proofs.Ground.Deciding.{beyond_3}
use Rattle.rules.proofs.Laws.Answers.{answer_accepts}
use Rattle.rules.proofs.Laws.Shape.{is_sound}
use Rattle.rules.proofs.Rules.Reasons.{by_phase_1, by_phase_2, by_phase_3, by_phase_4, by_phase_5, by_phase_7}
use Rattle.rules.proofs.Laws.Counts.{count_few}
use Rattle.steps.specs.Parts.{count_of_kind}
use Rattle.steps.proofs.OwnWords as own
use Rattle.fetch.proofs.Ways.{Took, none_kept, none_is, node_is}
use Rattle.phases.specs.Parts.{unanswered, step_busy}

-- what is answered from a seat's phase is no refusal
accepted : (u : Tables) (s : ℕ) → done 0 u ≡ unanswered (answered u s)
accepted u s = rw (answer_accepts u s)

-- ---- phase 6
module _ (sheet : Bool) (n t n' t' : List ℕ) (s o : ℕ) (c : Claim) (is_claim : c ≡ claim_of (tables sheet n []) o) (is_own : o ≡ seat_word sheet t s own_at) where
  same_claim : c ≡ claim_of (tables sheet n t) (seat_word sheet t s own_at)
  same_claim = rw (is_claim, is_own)

  module _ (r : Option ℕ) (took : Took r (tables sheet n' t') (fetch (tables sheet n t) s c)) where
    pub refetch_none : r ≡ None → done 8 (tables sheet n' t') ≡ unanswered (withdrawn (tables sheet n t) s)
    unfolding withdrawn refetched
    refetch_none e =
        let w = rw e at took in
        rw (none_kept sheet n t n' t' s c w, ← same_claim, ← none_is sheet n t n' t' s c w)

    pub refetch_node : (a : ℕ) → r ≡ Some a → done 0 (tables sheet n' t') ≡ unanswered (withdrawn (tables sheet n t) s)
    unfolding withdrawn refetched
    refetch_node a e =
        let is = node_is sheet n t n' t' s c a (rw e at took) in
        rw (← same_claim, ← is.0, ne_eqb a 0 is.1) (accepted (tables sheet n' t') s)

-- ---- by the phase
from_8 : (p : ℕ) → 4 ≤ p → p ≢ 4 → p ≢ 5 → p ≢ 6 → p ≢ 7 → 8 ≤ p
from_8 p h d4 d5 d6 d7 = omega arith

no_more : (p : ℕ) → p ≤ 7 → 8 ≤ p → ⊥
no_more p h i = omega arith

module _ (sheet : Bool) (n t : List ℕ) (s p : ℕ) (is_phase : p ≡ seat_word sheet t s phase_at) where
  pub step_idle : p ≡ 0 → done 6 (tables sheet n t) ≡ unanswered (step_busy (tables sheet n t) s)
  step_idle e = rw (sym is_phase ∙ e)

  -- where a rule is stepped: 0, and the rule's tables
  by_rule : (u v : Tables) → u ≡ v → p ≢ 0 → step_by_phase (tables sheet n t) s ≡ answered v s → done 0 u ≡ unanswered (step_busy (tables sheet n t) s)
  by_rule u v w d e = rw (w, ne_eqb (seat_word sheet t s phase_at) 0 (λ z. d (is_phase ∙ z)), e) (accepted v s)

  pub step_five : p ≡ 5 → done 0 (tables sheet n t) ≡ unanswered (step_busy (tables sheet n t) s)
  step_five e = by_rule _ _ refl (omega arith) (by_phase_5 (tables sheet n t) s (sym is_phase ∙ e))

  -- no other phase is sound
  pub step_none : sound (tables sheet n t) ≡ true → p ≢ 0 → p ≢ 1 → p ≢ 2 → p ≢ 3 → p ≢ 4 → p ≢ 5 → p ≢ 6 → p ≢ 7 → done 1 (tables sheet n t) ≡ unanswered (step_busy (tables sheet n t) s)
  step_none z d0 d1 d2 d3 d4 d5 d6 d7 = absurd (no_more p (rw is_phase ((is_sound (tables sheet n t) z).seat s).may_be_in_law.0) (from_8 p (beyond_3 p d0 d1 d2 d3) d4 d5 d6 d7))

  pub step_six : (n' t' : List ℕ) (r : ℕ) → done r (tables sheet n' t') ≡ unanswered (withdrawn (tables sheet n t) s) → p ≡ 6 → done r (tables sheet n' t') ≡ unanswered (step_busy (tables sheet n t) s)
  unfolding step_by_phase
  step_six n' t' r w e = rw (sym is_phase ∙ e) w

  -- the others are lent the part from a up to e, which are the seat's own words: l' is what they are then
  module _ (a e : ℕ) (starts : a ≡ seat_width sheet * s) (ends : e ≡ seat_width sheet * s + seat_width sheet) (is_seat : s < seat_count_of sheet t) (l' : List ℕ) where
    pub step_two : tables sheet n l' ≡ waiting_to_enter (tables sheet n (own.part t a e)) 0 → p ≡ 2 → done 0 (tables sheet n (own.back t a e l')) ≡ unanswered (step_busy (tables sheet n t) s)
    step_two w q = by_rule _ _ (own.waits_to_enter sheet t s a e starts ends is_seat n n l' w) (omega arith) (by_phase_2 (tables sheet n t) s (sym is_phase ∙ q))

    pub step_four : tables sheet n l' ≡ reader_waiting (tables sheet n (own.part t a e)) 0 → p ≡ 4 → done 0 (tables sheet n (own.back t a e l')) ≡ unanswered (step_busy (tables sheet n t) s)
    step_four w q = by_rule _ _ (own.waits_as_reader sheet t s a e starts ends is_seat n n l' w) (omega arith) (by_phase_4 (tables sheet n t) s (sym is_phase ∙ q))

    pub step_seven : tables sheet n l' ≡ entering (tables sheet n (own.part t a e)) 0 → p ≡ 7 → done 0 (tables sheet n (own.back t a e l')) ≡ unanswered (step_busy (tables sheet n t) s)
    step_seven w q = by_rule _ _ (own.enters sheet t s a e starts ends is_seat n n l' w) (omega arith) (by_phase_7 (tables sheet n t) s (sym is_phase ∙ q))

    module _ (n' : List ℕ) where
      pub step_one : tables sheet n' l' ≡ walking (tables sheet n (own.part t a e)) 0 → p ≡ 1 → done 0 (tables sheet n' (own.back t a e l')) ≡ unanswered (step_busy (tables sheet n t) s)
      step_one w q = by_rule _ _ (own.walks sheet t s a e starts ends is_seat n n' l' w) (omega arith) (by_phase_1 (tables sheet n t) s (sym is_phase ∙ q))

      pub step_three : tables sheet n' l' ≡ validating (tables sheet n (own.part t a e)) 0 → p ≡ 3 → done 0 (tables sheet n' (own.back t a e l')) ≡ unanswered (step_busy (tables sheet n t) s)
      step_three w q = by_rule _ _ (own.validates sheet t s a e starts ends is_seat n n' l' w) (omega arith) (by_phase_3 (tables sheet n t) s (sym is_phase ∙ q))

-- in sound tables one more is still a count
pub room_to_count : (sheet : Bool) (n t l : List ℕ) → sound (tables sheet n t) ≡ true → count_of_kind (tables sheet n l) 0 < 4294967295
room_to_count sheet n t l z = let h = count_few (tables sheet n t) z (kind_of (tables sheet n l) 0) in omega arith

-- ---- the call, its tables sound
module _ (sheet : Bool) (n t : List ℕ) (s c : ℕ) (is_count : c ≡ seat_count_of sheet t) (is_sound_here : sound (tables sheet n t) ≡ true) where
  pub step_past : c ≤ s → done 2 (tables sheet n t) ≡ unanswered (step (tables sheet n t) s)
  unfolding step
  step_past h = rw (is_sound_here, ← is_count, le-leb c s h)

  pub step_seat : (n' t' : List ℕ) (r : ℕ) → done r (tables sheet n' t') ≡ unanswered (step_busy (tables sheet n t) s) → s < c → done r (tables sheet n' t') ≡ unanswered (step (tables sheet n t) s)
  unfolding step
  step_seat n' t' r w h = rw (is_sound_here, ← is_count, lt-leb c s h) w

-- ---- what a step without its answer tells of the step
module _ (d : Done Answer) (r : ℕ) (u : Tables) (stepped : done r u ≡ unanswered d) where
  pub its_refusal : r ≡ refusal_of d.answer
  its_refusal = ap (λ (x : Done ℕ). x.answer) stepped

  pub its_tables : u ≡ d.after
  its_tables = ap (λ (x : Done ℕ). x.after) stepped
