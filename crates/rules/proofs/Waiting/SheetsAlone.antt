-- A sheet that is reached, where a claim holds as soon as it is linked: stepped alone, a claim comes to rest at the end of its walk, and whoever waits
-- waits at a holder. The walks are those of both profiles.
use Prim.Native.Nat.{ℕ, zero, suc, ◌+◌, ◌*◌, ◌≤◌, ◌<◌}
use mathlib.Core.Path.{◌≡◌, refl, sym, ap, subst, ◌∙◌}
use mathlib.Core.Bool.{Bool}
use mathlib.Core.List.{List, [], ◌∷◌}
use mathlib.Core.Logic.{◌≢◌, inl, inr}
use native.Mathlib.Omega.{arith}
use lib.ListN.{replicate}
use borrow.Author.Tests.{eqb-false}
use Rattle.rules.specs.Notation.{◌is◌}
use Rattle.rules.specs.Tables.{Tables, mark, phase, cur, phase_at}
use Rattle.rules.specs.Answers.{Answer, wait, back, refused, Done, done, answer_of}
use Rattle.rules.specs.Calls.{step}
use Rattle.rules.specs.Calls.{damaged as damaged_tables}
use Rattle.rules.specs.Run.{ran, refusal_of, run_steps, run}
use Rattle.rules.specs.Play.{step_call, call}
use Rattle.rules.specs.Reached.{Reached}
use Rattle.rules.specs.Refusing.{Refuses, damaged, no_such_seat, none_again}
use Rattle.rules.specs.Refusing.{idle as idle_seat}
use Rattle.rules.specs.Cause.{step_times, Cause, Settled, holds, waits, no_node, RunEnds, all_stepped, stopped_at_8}
use Rattle.rules.specs.Sheets.{OnSheet, idle, walking, waiting, holding, reserved, WaitsAtHolder, SheetSettled, SheetTold}
use Rattle.rules.specs.Run.{Ran}
use Rattle.rules.proofs.Ground.Logic.{clash, branch}
use Rattle.rules.proofs.Ground.Deciding.{if_same}
use Rattle.rules.proofs.Laws.Shape.{is_sound}
use Rattle.rules.proofs.Rules.Reasons.{Waking, wakes, stays}
use Rattle.rules.proofs.Rules.RefusedExactly.{call_by_table}
use Rattle.rules.proofs.Frames.SeatFrames.{other_seats_kept}
use Rattle.rules.proofs.Keeping.Hops.{busy_in}
use Rattle.rules.proofs.Keeping.CallKeeps.{good}
use Rattle.rules.proofs.Waiting.Within.{now, later, more_time, and_then, then_now, within_keeps}
use Rattle.rules.proofs.Waiting.Alone.{alone, rests_holding, rests_waiting, step_reached, after_2}
use Rattle.rules.proofs.Waiting.WalkAlone as walk
use Rattle.rules.proofs.Waiting.WalkAlone.{WalkAt, walk_ends}
use Rattle.rules.proofs.Waiting.LooseWalkAlone as loose
use Rattle.rules.proofs.Waiting.LooseWalkAlone.{loose_ends}
use Rattle.rules.proofs.Waiting.FetchAlone.{after_7}
use Rattle.rules.proofs.Waiting.RestsAlone.{Rests, chain_ahead}
use Rattle.rules.proofs.Waiting.StepsAlone.{times_reached, settled_after, run_alone}
use Rattle.rules.proofs.Waiting.NobodyWaits.{none_or_8, run_ends}
use Rattle.rules.proofs.Rules.RuleEffects.{phase_stored}
use Rattle.rules.proofs.Keeping.Aside.{seat_room}
use Rattle.rules.proofs.Soundness.SoundReached.{reached_sound}
use Rattle.rules.proofs.Soundness.SoundSheets.{sheet_phase}
use Rattle.rules.proofs.Waiting.EveryWait.{wait_caused}
use Rattle.rules.proofs.Laws.Answers.{back_in, refused_as}
use Rattle.rules.proofs.Rules.Accepting.{answers_from_phase}
use Rattle.rules.proofs.Holding.SheetsApart.{linked_holds}

-- ---- a step stays on the sheet
pub step_profile : (t : Tables) (s : ℕ) → (step t s).after.sheet ≡ t.sheet
unfolding call
step_profile t s = (other_seats_kept t (step_call s)).same_profile

still_sheet : (s : ℕ) (t : Tables) → OnSheet t → OnSheet (alone s t)
still_sheet s t q = step_profile t s ∙ q

times_sheet : (k : ℕ) (t : Tables) (s : ℕ) → OnSheet t → OnSheet (step_times k t s)
unfolding step_times
times_sheet zero t s q = q
times_sheet (suc k) t s q = times_sheet k (step t s).after s (still_sheet s t q)

-- ---- a claim stepped alone comes to rest
module _ {N S : ℕ} (s : ℕ) (s_in : s < S) where
  -- at the end of a walk whose prev and cur fit: it waits, or it is linked in and holds
  from_walk : {known : Bool} {t : Tables} → OnSheet t → WalkAt N S s known t → Rests s (N + 1) t
  from_walk {known} q w =
      let c = chain_ahead s s_in w.reached in
      more_time {k = suc N} (omega arith)
      (then_now (within_keeps OnSheet (still_sheet s) q (walk_ends s s_in known N w c.0 c.1 c.2))
      (λ u d. elim d.0 [ walk.at_rest z ↦ z | walk.linked n g p f ↦ absurd (clash u.sheet d.1 n) ]))

  from_7 : {t : Tables} → Reached N S t → OnSheet t → phase t s ≡ 7 → Rests s (N + 2) t
  from_7 {t} g q p = more_time {k = suc (N + 1)} (omega arith) (later {k = N + 1} (from_walk (still_sheet s t q) (after_7 s s_in g p)))

  from_1 : {t : Tables} → Reached N S t → OnSheet t → phase t s ≡ 1 → Rests s (2 * N + 2) t
  from_1 g q p =
      let c = chain_ahead s s_in g in
      more_time {k = suc N + (N + 1)} (omega arith)
      (and_then (N + 1) (within_keeps OnSheet (still_sheet s) q (loose_ends s s_in N g p c.0 c.1 c.2))
      (λ u d. elim d.0 [ loose.at_rest z ↦ now z | loose.joins w ↦ from_walk d.1 w ]))

  from_2 : {t : Tables} → Reached N S t → OnSheet t → phase t s ≡ 2 → Rests s (2 * N + 3) t
  from_2 {t} g q p =
      if_same (mark t (cur t s)) 1
      (λ m. more_time {k = suc (2 * N + 2)} (omega arith) (later {k = 2 * N + 2}
      (after_2 s s_in g (λ u. OnSheet u → Rests s (2 * N + 2) u) p (λ u w g' q'. from_1 g' q' (in_1 m w)) (still_sheet s t q))))
      (λ m. now (rests_waiting (inl p) m))
    where
      in_1 : {u : Tables} → mark t (cur t s) ≡ 1 → Waking t s 1 u → phase u s ≡ 1
      in_1 m (wakes x) = (phase_stored t s (seat_room (good g).aside s s_in) 1).at_s phase_at (omega arith)
      in_1 m (stays x) = absurd (x m)

  pub comes_to_rest : {t : Tables} → Reached N S t → OnSheet t → phase t s ≢ 0 → Rests s (2 * N + 3) t
  comes_to_rest {t} g q z = elim (sheet_phase t (reached_sound g) q s) [
    | idle e ↦ absurd (z e)
    | walking e ↦ more_time {k = 2 * N + 2} (omega arith) (from_1 g q e)
    | waiting e ↦ from_2 g q e
    | holding e ↦ now (rests_holding e)
    | reserved e ↦ more_time {k = N + 2} (omega arith) (from_7 g q e)
  ]

-- ---- so whoever waits waits at a holder, and no claim that is at rest wants a node
waits_at_holder : {N S : ℕ} {t : Tables} {s n first end : ℕ} → Reached N S t → OnSheet t → Cause t s n first end → WaitsAtHolder t s n first end
waits_at_holder r q c = record { cause = c; holds = linked_holds r q c.seat c.linked_in }

never_6 : {N S : ℕ} {t : Tables} → Reached N S t → OnSheet t → (s : ℕ) → phase t s ≢ 6
never_6 g q s e = (((good g).aside.seat s).phases q).2 e

settled_there : {N S : ℕ} {t : Tables} {s : ℕ} → Reached N S t → OnSheet t → Settled t s → SheetSettled t s
settled_there g q (holds h e) = SheetSettled.holds h e
settled_there g q (waits n first end e c) = SheetSettled.waits n first end e (waits_at_holder g q c)
settled_there {s = s} g q (no_node e p n) = absurd (never_6 g q s p)

pub wait_at_holder : {N S : ℕ} {t : Tables} → Reached N S t → OnSheet t → (s n first end : ℕ) → (step t s).answer ≡ wait n first end
    → WaitsAtHolder (step t s).after s n first end
wait_at_holder {t = t} g q s n first end e = waits_at_holder (step_reached g s) (still_sheet s t q) (wait_caused g s n first end e)

-- ---- a step is never refused 8, in any tables: in phase 6 a sheet is damaged
pub step_never_8 : (t : Tables) (s : ℕ) → OnSheet t → (step t s).answer ≢ refused 8
unfolding call
step_never_8 t s q e = go (call_by_table t (step_call s) 8 e) refl
  where
    go : {k : ℕ} → Refuses t (step_call s) k → k ≡ 8 → ⊥
    go (damaged x) y = omega arith
    go (no_such_seat x h) y = omega arith
    go (idle_seat w x) y = omega arith
    go (none_again w x n) y = (((is_sound t w.is_sound).seat s).may_be_in_law.1 q).2 x

-- nor is a run
runs_never_8 : (budget : ℕ) (t : Tables) (schedule : List ℕ) → OnSheet t → (run_steps budget t schedule).answer.refusal ≢ 8
unfolding run_steps
runs_never_8 zero t schedule q = omega arith
runs_never_8 (suc budget) t [] q = omega arith
runs_never_8 (suc budget) t (s ∷ rest) q =
    branch (λ (d : Done Ran). d.answer.refusal ≢ 8) (refusal_of (step t s).answer is 0)
    (λ e. runs_never_8 budget (step t s).after rest (still_sheet s t q))
    (λ e x. step_never_8 t s q (refused_as (step t s).answer (eqb-false (refusal_of (step t s).answer) 0 e) ∙ ap refused x))

pub run_never_8 : (t : Tables) (schedule : List ℕ) (budget : ℕ) → OnSheet t → (run t schedule budget).answer.refusal ≢ 8
unfolding run
run_never_8 t schedule budget q =
    branch (λ (d : Done Ran). d.answer.refusal ≢ 8) (damaged_tables t) (λ e. omega arith) (λ e. runs_never_8 budget t schedule q)

-- and never answered `back`, in a sheet that is reached
pub step_never_back : {N S : ℕ} {t : Tables} → Reached N S t → OnSheet t → (s : ℕ) → (step t s).answer ≢ back
step_never_back {t = t} g q s e =
    let from_phase : answer_of (step t s).after s ≡ back = sym (answers_from_phase t s (ap refusal_of e)) ∙ e in
    never_6 (step_reached g s) (still_sheet s t q) s (back_in (step t s).after s from_phase)

-- ---- steps of one seat with no other call between
module _ {N S : ℕ} {t : Tables} (g : Reached N S t) (q : OnSheet t) (s : ℕ) (busy : phase t s ≢ 0) where
  s_in : s < S
  s_in = busy_in (good g) s busy

  pub sheet_settled : (k : ℕ) → 2 * N + 3 ≤ k → SheetSettled (step_times k t s) s
  sheet_settled k h =
      settled_there (times_reached k s g) (times_sheet k t s q)
      (settled_after s s_in k t g (more_time {k = 2 * N + 3} h (comes_to_rest s s_in g q busy)))

  pub sheet_tells : (k : ℕ) → 2 * N + 3 ≤ k → SheetTold s (step (step_times k t s) s).answer (step (step_times k t s) s).after
  sheet_tells k h = elim (sheet_settled k h) [
    | SheetSettled.holds x e ↦ so e (SheetTold.told_held refl x)
    | SheetSettled.waits n first end e c ↦ so e (SheetTold.told_wait n first end refl c)
  ]
    where
      so : {a : Answer} {u : Tables} → step u s ≡ done a u → SheetTold s a u → SheetTold s (step u s).answer (step u s).after
      so e told = subst (λ (d : Done Answer). SheetTold s d.answer d.after) (sym e) told

  -- each is accepted
  pub sheet_accepted : (k : ℕ) → refusal_of (step (step_times k t s) s).answer ≡ 0
  sheet_accepted k = elim (none_or_8 g s busy k) [ inl e ↦ e | inr e ↦ absurd (step_never_8 (step_times k t s) s (times_sheet k t s q) e) ]

  pub sheet_settled_by_run : (k : ℕ) → 2 * N + 3 ≤ k → (budget : ℕ) → k ≤ budget → SheetSettled (run t (replicate k s) budget).after s
  sheet_settled_by_run k h budget l = rw (run_alone g k budget s l) (sheet_settled k h)

  pub sheet_run_ends : (k budget : ℕ) → k ≤ budget → (run t (replicate k s) budget).answer ≡ ran k 0
  sheet_run_ends k budget l = go (run_ends g s busy k budget l)
    where
      go : RunEnds k (run t (replicate k s) budget).answer → (run t (replicate k s) budget).answer ≡ ran k 0
      go (all_stepped a b) = λ i. record { steps = a i; refusal = b i }
      go (stopped_at_8 a b) = absurd (run_never_8 t (replicate k s) budget q a)
