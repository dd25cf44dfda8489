-- What a step that answers `wait` tells, of any tables: it is said from the seat's new phase, of the claim at its cur and its own, so the frames are
-- the whole of what the two share; and of sound ones, that a comparison which gives 0 is told so.
use Prim.Native.Nat.{ℕ, ◌<◌}
use mathlib.Core.Path.{◌≡◌, sym, ap, ◌∙◌}
use mathlib.Core.Bool.{true}
use mathlib.Core.Logic.{◌≢◌, ◌⊎◌, inl}
use native.Mathlib.Omega.{arith}
use lib.IntN.{pos}
use borrow.Author.Tests.{ne_eqb}
use Rattle.rules.specs.Tables.{Tables, phase_at, own_at, cur_at, seat_count, mark, phase, own, cur, set_phase}
use Rattle.rules.specs.Comparison.{claim_of, compare, shared_run, shared}
use Rattle.rules.specs.Shape.{sound}
use Rattle.rules.specs.Answers.{Answer, wait, Done, done, shared_at_cur, waiting, answer_of, answered}
use Rattle.rules.specs.Steps.{walking}
use Rattle.rules.specs.Calls.{step}
use Rattle.rules.specs.Run.{refusal_of}
use Rattle.rules.specs.Apart.{claim_of_seat}
use Rattle.rules.specs.Shared.{WholeShared, NoneShared}
use Rattle.rules.specs.declared.SharedRun.{SharedRun}
use Rattle.rules.proofs.Laws.SharedRuns.{shared_whole, shared_none}
use Rattle.rules.proofs.Laws.Answers.{answers_wait, waits_in}
use Rattle.rules.proofs.Rules.RuleEffects.{phase_stored}
use Rattle.rules.proofs.Rules.Reasons.{by_phase_1}
use Rattle.rules.proofs.Rules.Accepting.{Stepped, step_refused, step_accepted, stepped, answers_from_phase, step_is}
use Rattle.rules.proofs.Frames.SeatFrames.{sound_room}
use Rattle.rules.proofs.Frames.AfterStep.{Stayed, stepping_leaves}

module _ (n first end : ℕ) (t : Tables) (s : ℕ) (answers : (step t s).answer ≡ wait n first end) where
  abbrev u : Tables
  u = (step t s).after

  -- ---- it is answered from the seat's new phase
  from_phase : answer_of u s ≡ wait n first end
  from_phase = sym (answers_from_phase t s (ap refusal_of answers)) ∙ answers

  pub waits : (phase u s ≡ 2) ⊎ (phase u s ≡ 4)
  waits = (waits_in u s n first end from_phase).0

  told : waiting u s ≡ wait n first end
  told = (waits_in u s n first end from_phase).1

  -- ---- what the answer tells
  pub at_node : cur u s ≡ n
  at_node = let w = told in cc

  pub from_first : (shared_at_cur u s).first ≡ first
  from_first = let w = told in cc

  pub up_to_end : (shared_at_cur u s).end ≡ end
  up_to_end = let w = told in cc

  at_run : shared_run first end ≡ shared (claim_of u n) (claim_of_seat u s)
  at_run = rw (← from_first, ← up_to_end, ← at_node)

  pub told_whole : WholeShared (claim_of u n) (claim_of_seat u s) first end
  told_whole = let e = at_run in rw (ap (λ (r : SharedRun). r.first) e, ap (λ (r : SharedRun). r.end) e) (shared_whole (claim_of u n) (claim_of_seat u s))

  pub told_none : NoneShared (claim_of u n) (claim_of_seat u s) → (first ≡ 0) × (end ≡ 0)
  told_none z =
      let e = at_run ∙ shared_none (claim_of u n) (claim_of_seat u s) z in
      (ap (λ (r : SharedRun). r.first) e, ap (λ (r : SharedRun). r.end) e)

  -- ---- where the step left the seat: it stood there before
  left : {d : Done Answer} → Stepped t s d → d.answer ≡ wait n first end → (phase d.after s ≡ 2) ⊎ (phase d.after s ≡ 4)
      → Stayed t d.after s × (mark d.after (cur d.after s) ≢ 1)
  left (step_refused k r) q p = let z : ◌≡◌ {A = ℕ} 0 1 = cc in absurd (omega arith)
  left (step_accepted e h busy w) q p = let l = stepping_leaves t s (sound_room t s e h) busy w in (l.stayed p, l.unmarked p)

  pub at_unmarked : mark u (cur u s) ≢ 1
  at_unmarked = (left (stepped t s) answers waits).1

  stayed : Stayed t u s
  stayed = (left (stepped t s) answers waits).0

  pub at_node_before : cur t s ≡ n
  at_node_before = sym stayed.same_cur ∙ at_node

  pub told_whole_before : WholeShared (claim_of t n) (claim_of_seat t s) first end
  told_whole_before = let w = stayed in rw (w.same_own, w.same_profile, w.same_nodes) at told_whole

-- ---- a walker that finds an unmarked claim where the comparison gives 0
module _ (t : Tables) (s : ℕ) (is_sound : sound t ≡ true) (is_seat : s < seat_count t) (p : phase t s ≡ 1) where
  begins_to_wait : cur t s ≢ 0 → mark t (cur t s) ≢ 1 → compare (claim_of t (cur t s)) (claim_of_seat t s) ≡ pos 0 → walking t s ≡ set_phase t s 2
  unfolding walking
  begins_to_wait c m e = rw (ne_eqb (cur t s) 0 c, ne_eqb (mark t (cur t s)) 1 m, e)

  says_so : answer_of (set_phase t s 2) s ≡ waiting t s
  says_so =
      let w = phase_stored t s (sound_room t s is_sound is_seat) 2 in
      let same_cur : cur (set_phase t s 2) s ≡ cur t s = w.at_s cur_at (omega arith) in
      let same_own : own (set_phase t s 2) s ≡ own t s = w.at_s own_at (omega arith) in
      answers_wait (set_phase t s 2) s (inl (w.at_s phase_at (omega arith))) ∙ rw (same_cur, same_own)

  pub clash_told : cur t s ≢ 0 → mark t (cur t s) ≢ 1 → compare (claim_of t (cur t s)) (claim_of_seat t s) ≡ pos 0
      → step t s ≡ done (waiting t s) (set_phase t s 2)
  clash_told c m e =
      step_is t s is_sound is_seat (omega arith) ∙ by_phase_1 t s p ∙ ap (λ u. answered u s) (begins_to_wait c m e)
      ∙ ap (λ a. done a (set_phase t s 2)) says_so
