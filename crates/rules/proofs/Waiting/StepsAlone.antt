-- Steps of one seat alone, counted: they settle its claim, each is accepted until one is refused 8, and a run of them does the same.
use Prim.Native.Nat.{ℕ, zero, suc, ◌+◌, ◌≤◌, ◌<◌}
use mathlib.Core.Path.{◌≡◌, refl, sym, ap, subst}
use mathlib.Core.Logic.{◌≢◌}
use native.Mathlib.Omega.{arith}
use lib.ListN.{replicate}
use borrow.Author.Tests.{eqb-false}
use Rattle.rules.specs.Notation.{◌is◌}
use Rattle.rules.specs.Tables.{Tables, phase}
use Rattle.rules.specs.Answers.{Answer, Done, done}
use Rattle.rules.specs.Calls.{step}
use Rattle.rules.specs.Run.{ran, refusal_of, run_steps, run}
use Rattle.rules.specs.Cause.{step_times, Settled, holds, waits, no_node, Told, told_held, told_wait, told_8, RunEnds, all_stepped, stopped_at_8}
use Rattle.rules.specs.Run.{Ran}
use Rattle.rules.specs.Reached.{Reached}
use Rattle.rules.proofs.Ground.Logic.{branch}
use Rattle.rules.proofs.Rules.RefusedExactly.{refused_step_keeps}
use Rattle.rules.proofs.Rules.Reasons.{steps}
use Rattle.rules.proofs.Soundness.Refusals.{NoneOr8, no_refusal, refusal_8, stepping_none_or_8}
use Rattle.rules.proofs.Frames.AfterStep.{step_stays_busy}
use Rattle.rules.proofs.Soundness.SoundReached.{reached_sound}
use Rattle.rules.proofs.Waiting.Within.{Within, now, later}
use Rattle.rules.proofs.Waiting.Alone.{alone, AtRest, step_reached, accepted}
use Rattle.rules.proofs.Waiting.Causes.{rest_stays, rest_settled}

pub times_reached : {N S : ℕ} (k : ℕ) {t : Tables} (s : ℕ) → Reached N S t → Reached N S (step_times k t s)
unfolding step_times
times_reached zero s g = g
times_reached (suc k) s g = times_reached k s (step_reached g s)

-- ---- what is at rest within k steps is at rest after k
module _ {N S : ℕ} (s : ℕ) (s_in : s < S) where
  still_at_rest : (k : ℕ) (t : Tables) → Reached N S t → AtRest s t → AtRest s (step_times k t s)
  unfolding step_times
  still_at_rest zero t g r = r
  still_at_rest (suc k) t g r = rw (rest_stays s s_in g r) (still_at_rest k t g r)

  at_rest_after : (k : ℕ) (t : Tables) → Reached N S t → Within (alone s) (AtRest s) k t → AtRest s (step_times k t s)
  unfolding step_times
  at_rest_after k t g (now r) = still_at_rest k t g r
  at_rest_after (suc k) t g (later w) = at_rest_after k (step t s).after (step_reached g s) w

  pub settled_after : (k : ℕ) (t : Tables) → Reached N S t → Within (alone s) (AtRest s) k t → Settled (step_times k t s) s
  settled_after k t g w = rest_settled s s_in (times_reached k s g) (at_rest_after k t g w)

-- ---- what the next step then tells
pub settled_tells : {t : Tables} {s : ℕ} → Settled t s → Told s (step t s).answer (step t s).after
settled_tells {t} {s} w = elim w [
  | holds h e ↦ so e (told_held refl h)
  | waits n first end e c ↦ so e (told_wait n first end refl c)
  | no_node e p n ↦ so e (told_8 refl p n)
]
  where
    so : {a : Answer} → step t s ≡ done a t → Told s a t → Told s (step t s).answer (step t s).after
    so e told = subst (λ (d : Done Answer). Told s d.answer d.after) (sym e) told

-- ---- each step is accepted, or refused 8
pub times_busy : (k : ℕ) (t : Tables) (s : ℕ) → phase t s ≢ 0 → phase (step_times k t s) s ≢ 0
unfolding step_times
times_busy zero t s d = d
times_busy (suc k) t s d = times_busy k (step t s).after s (step_stays_busy t s d)

pub step_none_or_8 : {N S : ℕ} (s : ℕ) → s < S → {t : Tables} → Reached N S t → phase t s ≢ 0 → NoneOr8 (step t s).answer
step_none_or_8 s s_in {t} g d = rw (accepted s s_in g d) (stepping_none_or_8 (steps t s))

-- ---- a run of them
same_times : (k : ℕ) (t : Tables) (s : ℕ) → (step t s).after ≡ t → step_times k t s ≡ t
unfolding step_times
same_times zero t s e = refl
same_times (suc k) t s e = rw e (same_times k t s e)

run_steps_alone : (k budget : ℕ) (t : Tables) (s : ℕ) → k ≤ budget → (run_steps budget t (replicate k s)).after ≡ step_times k t s
unfolding run_steps step_times
run_steps_alone zero zero t s l = refl
run_steps_alone zero (suc budget) t s l = refl
run_steps_alone (suc k) zero t s l = absurd (omega arith)
run_steps_alone (suc k) (suc budget) t s l =
    branch (λ (d : Done Ran). d.after ≡ step_times k (step t s).after s) (refusal_of (step t s).answer is 0)
    (λ e. run_steps_alone k budget (step t s).after s (omega arith))
    (λ e. let q = refused_step_keeps t s (eqb-false (refusal_of (step t s).answer) 0 e) in sym (rw q (same_times k t s q)))

pub run_alone : {N S : ℕ} {t : Tables} → Reached N S t → (k budget s : ℕ) → k ≤ budget → (run t (replicate k s) budget).after ≡ step_times k t s
unfolding run
run_alone {t = t} g k budget s l = rw (reached_sound g) (run_steps_alone k budget t s l)

-- and it is refused nothing, or 8
run_steps_refusal : {N S : ℕ} (s : ℕ) → s < S → (k budget : ℕ) (t : Tables) → Reached N S t → phase t s ≢ 0 → k ≤ budget
    → RunEnds k (run_steps budget t (replicate k s)).answer
unfolding run_steps
run_steps_refusal s s_in zero zero t g d l = all_stepped refl refl
run_steps_refusal s s_in zero (suc budget) t g d l = all_stepped refl refl
run_steps_refusal s s_in (suc k) zero t g d l = absurd (omega arith)
run_steps_refusal s s_in (suc k) (suc budget) t g d l =
    branch (λ (r : Done Ran). RunEnds (suc k) r.answer) (refusal_of (step t s).answer is 0)
    (λ e. one_more (run_steps_refusal s s_in k budget (step t s).after (step_reached g s) (step_stays_busy t s d) (omega arith)))
    (λ e. elim (step_none_or_8 s s_in g d) [
      | no_refusal z ↦ absurd (eqb-false (refusal_of (step t s).answer) 0 e z)
      | refusal_8 z ↦ stopped_at_8 (ap refusal_of z) (omega arith)
    ])
  where
    one_more : {r : Ran} → RunEnds k r → RunEnds (suc k) (ran (r.steps + 1) r.refusal)
    one_more (all_stepped x y) = all_stepped (omega arith) y
    one_more (stopped_at_8 x y) = stopped_at_8 x (omega arith)

pub run_alone_ends : {N S : ℕ} (s : ℕ) → s < S → (k budget : ℕ) {t : Tables} → Reached N S t → phase t s ≢ 0 → k ≤ budget
    → RunEnds k (run t (replicate k s) budget).answer
unfolding run
run_alone_ends s s_in k budget {t} g d l = rw (reached_sound g) (run_steps_refusal s s_in k budget t g d l)
