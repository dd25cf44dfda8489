-- Run's loop: after k accepted steps, k and what is left of the budget and of the schedule give the whole.
use Prim.Native.Nat.{ℕ, zero, suc, ◌+◌, ◌-◌, ◌≤◌, ◌<◌}
use mathlib.Core.Path.{◌≡◌, refl, sym, ap, ◌∙◌}
use mathlib.Core.Bool.{Bool, true, false, not, ◌&&◌, ◌||◌}
use mathlib.Core.List.{List, [], ◌∷◌}
use mathlib.Core.Logic.{◌≢◌, inl, inr}
use native.Mathlib.Omega.{arith}
use native.Mathlib.Numerals.{add-one}
use lib.ListN.{length, drop, get_or}
use lib.Seq.{drop-cons, drop-length}
use lib.Dec.{eqb, leb}
use borrow.Author.Tests.{ne_eqb, eq-eqb, eqb-true, eqb-false, leb-true, leb-false, not-true, not-false}
use Rattle.rules.specs.Tables.{Tables, tables, seat_word, node_count_of, seat_count_of, link_word, phase_at, phase}
use Rattle.rules.specs.Shape.{nodes_fit, seats_fit, lengths_fit, sound}
use Rattle.rules.specs.Answers.{refused, Done, done}
use Rattle.rules.specs.Calls.{step}
use Rattle.rules.specs.Run.{ran, refusal_of, one_step_more, run_steps, run}
use Rattle.rules.specs.Run.{Ran}
use Rattle.rules.proofs.Ground.Logic.{branch, clash, not_of, or_left, or_right, or_case, or_neither, and_left}
use Rattle.rules.proofs.Laws.Words.{same_node_count, same_seat_count}
use Rattle.rules.proofs.Laws.Shape.{is_sound, lengths_fit_is}
use Rattle.rules.proofs.Rules.RefusedExactly.{refused_step_keeps}
use Rattle.rules.proofs.Soundness.SoundKept.{LinkedNow, step_keeps_sound}
use Rattle.shape.specs.Parts.{list_ends}
use Rattle.phases.specs.Parts.{unanswered}
use Rattle.phases.proofs.Ways.{step_past, its_refusal, its_tables}
use Rattle.rules.proofs.Laws.NodesAlone.{ends_alone}
use Rattle.run.specs.Parts.{kept_sound, stop_at_damage}

-- k steps before the others
abbrev pub plus : ℕ → Done Ran → Done Ran
plus k rest = done (ran (rest.answer.steps + k) rest.answer.refusal) rest.after

plus_more : (k : ℕ) (rest : Done Ran) → plus k (one_step_more rest) ≡ plus (k + 1) rest
plus_more k rest = let e : rest.answer.steps + 1 + k ≡ rest.answer.steps + (k + 1) = omega arith in rw e

plus_none : (k refusal : ℕ) (t : Tables) → done (ran k refusal) t ≡ plus k (done (ran 0 refusal) t)
plus_none k refusal t = let e : 0 + k ≡ k = omega arith in rw e

-- ---- one entry: a seat that there is
module _ (sheet : Bool) (t : List ℕ) (s c : ℕ) (is_count : c ≡ seat_count_of sheet t) (there : s < c) where
  pub seat_there : s < seat_count_of sheet t
  seat_there = rw (← is_count) there

  pub still_there : (t' : List ℕ) → length t' ≡ length t → s < seat_count_of sheet t'
  still_there t' e = rw (same_seat_count (tables sheet [] t) (tables sheet [] t') refl e) seat_there

-- ---- the loop
accepted : (b : ℕ) (t : Tables) (s : ℕ) (rest : List ℕ) → refusal_of (step t s).answer ≡ 0 → run_steps (suc b) t (s ∷ rest) ≡ one_step_more (run_steps b (step t s).after rest)
unfolding run_steps
accepted b t s rest e = rw e

turned_away : (b : ℕ) (t : Tables) (s : ℕ) (rest : List ℕ) → refusal_of (step t s).answer ≢ 0 → run_steps (suc b) t (s ∷ rest) ≡ done (ran 0 (refusal_of (step t s).answer)) t
unfolding run_steps
turned_away b t s rest d = rw (ne_eqb (refusal_of (step t s).answer) 0 d)

nothing_left : (b : ℕ) (t : Tables) → run_steps b t [] ≡ done (ran 0 0) t
unfolding run_steps
nothing_left zero t = refl
nothing_left (suc b) t = refl

step_damaged : (t : Tables) (s : ℕ) → sound t ≡ false → step t s ≡ done (refused 1) t
unfolding step
step_damaged t s e = rw e

budget_used : (t : Tables) (schedule : List ℕ) → run_steps 0 t schedule ≡ done (ran 0 0) t
unfolding run_steps
budget_used t schedule = refl

module _ (sheet : Bool) (schedule : List ℕ) (budget : ℕ) (whole : Done Ran) (n t : List ℕ) where
  -- after k accepted steps, with the tables n and t
  abbrev pub Left : ℕ → Type 0
  Left k = plus k (run_steps (budget - k) (tables sheet n t) (drop k schedule)) ≡ whole

  -- an entry is left, and so is some of the budget
  here : (k : ℕ) → k < budget → k < length schedule
      → run_steps (budget - k) (tables sheet n t) (drop k schedule) ≡ run_steps (suc (budget - (k + 1))) (tables sheet n t) (get_or schedule k 0 ∷ drop (k + 1) schedule)
  here k h i =
      let e : budget - k ≡ suc (budget - (k + 1)) = omega arith in
      rw (e, drop-cons schedule k 0 i, ← add-one k)

  -- the entry is stepped
  module _ (n' t' : List ℕ) (k s r : ℕ) (left : Left k) (stepped : done r (tables sheet n' t') ≡ unanswered (step (tables sheet n t) s))
      (is_entry : s ≡ get_or schedule k 0) (h : k < budget) (i : k < length schedule) where
    refusal : r ≡ refusal_of (step (tables sheet n t) s).answer
    refusal = its_refusal (step (tables sheet n t) s) r (tables sheet n' t') stepped

    after : tables sheet n' t' ≡ (step (tables sheet n t) s).after
    after = its_tables (step (tables sheet n t) s) r (tables sheet n' t') stepped

    pub left_again : r ≡ 0 → plus (k + 1) (run_steps (budget - (k + 1)) (tables sheet n' t') (drop (k + 1) schedule)) ≡ whole
    left_again e =
        let z : refusal_of (step (tables sheet n t) s).answer ≡ 0 = sym refusal ∙ e in
        rw (after, is_entry) (sym (plus_more k (run_steps (budget - (k + 1)) (step (tables sheet n t) (get_or schedule k 0)).after (drop (k + 1) schedule)))
        ∙ ap (plus k) (sym (here k h i ∙ accepted (budget - (k + 1)) (tables sheet n t) (get_or schedule k 0) (drop (k + 1) schedule) (rw is_entry at z)))
        ∙ left)

    pub left_refused : r ≢ 0 → done (ran k r) (tables sheet n' t') ≡ whole
    left_refused d =
        let z : refusal_of (step (tables sheet n t) s).answer ≢ 0 = λ e. d (refusal ∙ e) in
        rw (refusal, after ∙ refused_step_keeps (tables sheet n t) s z)
        (plus_none k (refusal_of (step (tables sheet n t) s).answer) (tables sheet n t)
        ∙ ap (plus k) (rw is_entry (sym (here k h i ∙ turned_away (budget - (k + 1)) (tables sheet n t) (get_or schedule k 0) (drop (k + 1) schedule) (rw is_entry at z))))
        ∙ left)

  -- there is no such seat
  pub left_past : (k s c : ℕ) → Left k → sound (tables sheet n t) ≡ true → c ≡ seat_count_of sheet t → c ≤ s → s ≡ get_or schedule k 0 → k < budget → k < length schedule
      → done (ran k 2) (tables sheet n t) ≡ whole
  left_past k s c l e p h q i j = left_refused n t k s 2 l (step_past sheet n t s c p e h) q i j (omega arith)

  pub left_budget : (k : ℕ) → Left k → k ≡ budget → done (ran k 0) (tables sheet n t) ≡ whole
  left_budget k l e =
      let z : budget - k ≡ 0 = omega arith in
      plus_none k 0 (tables sheet n t) ∙ ap (plus k) (rw z (sym (budget_used (tables sheet n t) (drop k schedule)))) ∙ l

  pub left_end : (k : ℕ) → Left k → length schedule ≤ k → k ≤ length schedule → done (ran k 0) (tables sheet n t) ≡ whole
  left_end k l h i =
      let z : k ≡ length schedule = omega arith in
      plus_none k 0 (tables sheet n t) ∙ ap (plus k) (rw (z, drop-length schedule) (sym (nothing_left (budget - length schedule) (tables sheet n t)))) ∙ l

  -- the tables are damaged: an entry that is left is refused 1
  left_damaged : (k : ℕ) → Left k → sound (tables sheet n t) ≡ false → k ≤ budget → k ≤ length schedule → done (stop_at_damage k (length schedule) budget) (tables sheet n t) ≡ whole
  left_damaged k l e h i =
      branch (λ r. done r (tables sheet n t) ≡ whole) (eqb k budget || leb (length schedule) k)
      (λ z. elim (or_case (eqb k budget) (leb (length schedule) k) z) [
        | inl q ↦ left_budget k l (eqb-true k budget q)
        | inr q ↦ left_end k l (leb-true (length schedule) k q) i
      ])
      (λ z.
      let y = or_neither (eqb k budget) (leb (length schedule) k) z in
      let used = eqb-false k budget y.0 in
      let more = leb-false (length schedule) k y.1 in
      let s = get_or schedule k 0 in
      let one : refusal_of (step (tables sheet n t) s).answer ≡ 1 = rw (step_damaged (tables sheet n t) s e) in
      plus_none k 1 (tables sheet n t)
      ∙ ap (plus k) (rw one at (sym (here k (omega arith) more ∙ turned_away (budget - (k + 1)) (tables sheet n t) s (drop (k + 1) schedule) (λ q. absurd (omega arith)))))
      ∙ l)

  pub left_stopped : (k : ℕ) (r : Ran) → Left k → r ≡ stop_at_damage k (length schedule) budget → sound (tables sheet n t) ≡ false → k ≤ budget → k ≤ length schedule
      → done r (tables sheet n t) ≡ whole
  left_stopped k r l q e h i = rw q (left_damaged k l e h i)

pub left_all : (schedule : List ℕ) (budget : ℕ) (t : Tables) → plus 0 (run_steps (budget - 0) t (drop 0 schedule)) ≡ run_steps budget t schedule
left_all schedule budget t =
    let e : budget - 0 ≡ budget = omega arith in
    let f : (run_steps budget t schedule).answer.steps + 0 ≡ (run_steps budget t schedule).answer.steps = omega arith in
    rw (e, f)

-- ---- the call
pub run_sound : (sheet : Bool) (n n' t t' schedule : List ℕ) (budget : ℕ) (b : Bool) (r : Ran) → done r (tables sheet n' t') ≡ run_steps budget (tables sheet n t) schedule → b ≡ sound (tables sheet n t) → b ≡ true
    → done r (tables sheet n' t') ≡ run (tables sheet n t) schedule budget
unfolding run
run_sound sheet n n' t t' schedule budget b r w p e = rw (sym p ∙ e) w

pub run_damaged : (sheet : Bool) (n t schedule : List ℕ) (budget : ℕ) (b : Bool) → b ≡ sound (tables sheet n t) → b ≡ false → done (ran 0 1) (tables sheet n t) ≡ run (tables sheet n t) schedule budget
unfolding run
run_damaged sheet n t schedule budget b p e = rw (sym p ∙ e)

-- ---- whether the tables are still sound
pub kept_linked : (sheet : Bool) (n : List ℕ) (before after : ℕ) (r : Bool) → r ≡ list_ends (tables sheet n []) → (eqb before 1 && (eqb after 3 || eqb after 5)) ≡ true → r ≡ kept_sound (tables sheet n []) before after
kept_linked sheet n before after r p e = rw e p

pub kept_other : (sheet : Bool) (n : List ℕ) (before after : ℕ) → (eqb before 1 && (eqb after 3 || eqb after 5)) ≡ false → true ≡ kept_sound (tables sheet n []) before after
kept_other sheet n before after e = rw e

-- a step keeps the lengths
pub still_fit : (sheet : Bool) (n n' t : List ℕ) → sound (tables sheet n t) ≡ true → length n' ≡ length n → nodes_fit (tables sheet n' []) ≡ true
unfolding lengths_fit nodes_fit
still_fit sheet n n' t e l =
    rw (l, same_node_count (tables sheet n t) (tables sheet n' []) refl l)
    (and_left (nodes_fit (tables sheet n t)) (seats_fit (tables sheet n t)) (lengths_fit_is (tables sheet n t) (is_sound (tables sheet n t) e)))

-- the phases to which the step that links own in comes
linked_now : (p : ℕ) → LinkedNow p → (eqb p 3 || eqb p 5) ≡ true
linked_now p (inl e) = or_left (eqb p 3) (eqb p 5) (eq-eqb p 3 e)
linked_now p (inr e) = or_right (eqb p 3) (eqb p 5) (eq-eqb p 5 e)

-- of the tables after a step on sound ones
module _ (sheet : Bool) (n n' t t' : List ℕ) (s before after r : ℕ) (k : Bool) (stepped : done r (tables sheet n' t') ≡ unanswered (step (tables sheet n t) s)) (is_before : before ≡ seat_word sheet t s phase_at)
    (is_after : after ≡ seat_word sheet t' s phase_at) (is_kept : k ≡ kept_sound (tables sheet n' []) before after) where
  alone : list_ends (tables sheet n' []) ≡ list_ends (tables sheet n' t')
  alone = ends_alone sheet (node_count_of sheet n') n' t' (link_word sheet n' 0)

  pub still_sound : not k ≡ false → sound (tables sheet n t) ≡ true → sound (tables sheet n' t') ≡ true
  still_sound e was =
      let u : tables sheet n' t' ≡ (step (tables sheet n t) s).after = its_tables (step (tables sheet n t) s) r (tables sheet n' t') stepped in
      let new : after ≡ phase (step (tables sheet n t) s).after s = is_after ∙ ap (λ (x : Tables). phase x s) u in
      rw u (step_keeps_sound (tables sheet n t) s was (λ x y.
      let linked : kept_sound (tables sheet n' []) before after ≡ list_ends (tables sheet n' []) = rw (eq-eqb before 1 (is_before ∙ x), linked_now after (rw new y)) in
      rw (← u) (sym alone ∙ sym linked ∙ sym is_kept ∙ not-false k e)))

  pub now_damaged : not k ≡ true → sound (tables sheet n' t') ≡ false
  now_damaged e =
      not_of (sound (tables sheet n' t')) (λ yes_sound.
      let ends : list_ends (tables sheet n' []) ≡ true = alone ∙ (is_sound (tables sheet n' t') yes_sound).ends in
      clash (kept_sound (tables sheet n' []) before after)
      (branch (λ b. b ≡ true) (eqb before 1 && (eqb after 3 || eqb after 5)) (λ q. ends) (λ q. refl))
      (sym is_kept ∙ not-true k e))

-- ---- the answer at damage
pub stops_used : (steps entries budget : ℕ) → (eqb steps budget || leb entries steps) ≡ true → ran steps 0 ≡ stop_at_damage steps entries budget
stops_used steps entries budget e = rw e

pub stops_refused : (steps entries budget : ℕ) → (eqb steps budget || leb entries steps) ≡ false → ran steps 1 ≡ stop_at_damage steps entries budget
stops_refused steps entries budget e = rw e
