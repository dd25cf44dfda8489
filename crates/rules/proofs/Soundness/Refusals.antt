-- With which refusals a call on sound tables can answer: an accepted reserve or step with none or 8, and none with 1.
use Prim.Native.Nat.{ℕ, zero, suc}
use mathlib.Core.Path.{◌≡◌, refl, sym, ap, ◌∙◌}
use mathlib.Core.Bool.{true}
use mathlib.Core.List.{List, [], ◌∷◌}
use mathlib.Core.Logic.{◌≢◌}
use native.Mathlib.Omega.{arith}
use Rattle.rules.specs.Notation.{◌is◌}
use Rattle.rules.specs.Tables.{Tables}
use Rattle.rules.specs.Shape.{sound}
use Rattle.rules.specs.Comparison.{Claim}
use Rattle.rules.specs.Fetch.{Fetched}
use Rattle.rules.specs.Answers.{Answer, refused, Done}
use Rattle.rules.specs.Steps.{refetched, entering}
use Rattle.rules.specs.Calls.{reserved, step}
use Rattle.rules.specs.Run.{refusal_of, run_steps, run}
use Rattle.rules.specs.Play.{Call, reserve_call, enter_call, step_call, release_call, call}
use Rattle.rules.specs.Refusing.{Refuses}
use Rattle.rules.specs.Reached.{single, Reached, asked}
use Rattle.rules.specs.Run.{Ran}
use Rattle.rules.proofs.Ground.Logic.{branch, clash}
use Rattle.rules.proofs.Laws.Answers.{refused_as, answer_accepts}
use Rattle.rules.proofs.Rules.Reasons.{Stepping, in_1, in_2, in_3, in_4, in_6, in_7, at_rest}
use Rattle.rules.proofs.Soundness.SoundReached.{reached_sound}
use Rattle.rules.proofs.Rules.Accepting.{refusal_tells, Reserving, reserve_refused, reserve_accepted, reserving, Entering, enter_refused, enter_accepted, enters, Stepped, step_refused, step_accepted, stepped, Releasing, release_refused, release_accepted, releasing}

-- the refusals of an accepted reserve and an accepted step: none, or 8
pub data NoneOr8 (a : Answer) : Type 0 where
  no_refusal : refusal_of a ≡ 0 → NoneOr8 a
  refusal_8 : a ≡ refused 8 → NoneOr8 a

reserved_none_or_8 : (t : Tables) (f : Fetched) → NoneOr8 (reserved t f).answer
unfolding reserved
reserved_none_or_8 t f = branch (λ (d : Done Answer). NoneOr8 d.answer) (f.node is 0) (λ e. refusal_8 refl) (λ e. no_refusal refl)

refetched_none_or_8 : (t : Tables) (s : ℕ) (f : Fetched) → NoneOr8 (refetched t s f).answer
unfolding refetched
refetched_none_or_8 t s f =
    branch (λ (d : Done Answer). NoneOr8 d.answer) (f.node is 0) (λ e. refusal_8 refl) (λ e. no_refusal (answer_accepts f.after s))

pub stepping_none_or_8 : {t : Tables} {s : ℕ} {d : Done Answer} → Stepping t s d → NoneOr8 d.answer
stepping_none_or_8 {s = s} (in_1 {u = u} e w) = no_refusal (answer_accepts u s)
stepping_none_or_8 {s = s} (in_2 {u = u} e w) = no_refusal (answer_accepts u s)
stepping_none_or_8 {s = s} (in_3 {u = u} e w) = no_refusal (answer_accepts u s)
stepping_none_or_8 {s = s} (in_4 {u = u} e w) = no_refusal (answer_accepts u s)
stepping_none_or_8 {t} {s} (in_6 {f = f} e w) = refetched_none_or_8 t s f
stepping_none_or_8 {t} {s} (in_7 e) = no_refusal (answer_accepts (entering t s) s)
stepping_none_or_8 {t} {s} (at_rest a b c d e f) = no_refusal (answer_accepts t s)

none_or_8_not_1 : {a : Answer} → NoneOr8 a → a ≢ refused 1
none_or_8_not_1 (no_refusal e) q = let z = ap refusal_of q in omega arith
none_or_8_not_1 (refusal_8 e) q = let z = ap refusal_of (sym e ∙ q) in omega arith

module _ (t : Tables) (e : sound t ≡ true) (s : ℕ) where
  refused_not_1 : {c : Call} {number : ℕ} → Refuses t c number → refused number ≢ refused 1
  refused_not_1 r q = clash (sound t) e ((refusal_tells r).if_1 (ap refusal_of q))

  reserve_not_1 : {c : Claim} {d : Done Answer} → Reserving t s c d → d.answer ≢ refused 1
  reserve_not_1 (reserve_refused k r) = refused_not_1 r
  reserve_not_1 (reserve_accepted {f = f} x h p k i z w) = none_or_8_not_1 (reserved_none_or_8 t f)

  step_not_1 : {d : Done Answer} → Stepped t s d → d.answer ≢ refused 1
  step_not_1 (step_refused k r) = refused_not_1 r
  step_not_1 (step_accepted x h b w) = none_or_8_not_1 (stepping_none_or_8 w)

  enter_not_1 : {d : Done Answer} → Entering t s d → d.answer ≢ refused 1
  enter_not_1 (enter_refused k r) = refused_not_1 r
  enter_not_1 (enter_accepted x h p) = none_or_8_not_1 (no_refusal (answer_accepts (entering t s) s))

  release_not_1 : {d : Done Answer} → Releasing t s d → d.answer ≢ refused 1
  release_not_1 (release_refused k r) = refused_not_1 r
  release_not_1 (release_accepted x h p) = λ q. let z = ap refusal_of q in omega arith

pub sound_never_damaged : (t : Tables) → sound t ≡ true → (c : Call) → (call t c).answer ≢ refused 1
unfolding call
sound_never_damaged t e (reserve_call s c) = reserve_not_1 t e s (reserving t s c)
sound_never_damaged t e (enter_call s) = enter_not_1 t e s (enters t s)
sound_never_damaged t e (step_call s) = step_not_1 t e s (stepped t s)
sound_never_damaged t e (release_call s) = release_not_1 t e s (releasing t s)

-- ---- nor is a run, nor any of its steps
refusal_1 : (a : Answer) → refusal_of a ≡ 1 → a ≡ refused 1
refusal_1 a e = refused_as a (λ z. let q = sym z ∙ e in omega arith) ∙ ap refused e

run_steps_not_1 : {N S : ℕ} (budget : ℕ) (t : Tables) (schedule : List ℕ) → Reached N S t → (run_steps budget t schedule).answer.refusal ≢ 1
unfolding run_steps call
run_steps_not_1 zero t schedule r = omega arith
run_steps_not_1 (suc budget) t [] r = omega arith
run_steps_not_1 (suc budget) t (s ∷ rest) r =
    branch (λ (d : Done Ran). d.answer.refusal ≢ 1) (refusal_of (step t s).answer is 0)
    (λ e. run_steps_not_1 budget (step t s).after rest (asked r (single (step_call s))))
    (λ e q. sound_never_damaged t (reached_sound r) (step_call s) (refusal_1 (step t s).answer q))

pub run_not_1 : {N S : ℕ} {t : Tables} → Reached N S t → (schedule : List ℕ) (budget : ℕ) → (run t schedule budget).answer.refusal ≢ 1
unfolding run
run_not_1 {t = t} r schedule budget = rw (reached_sound r) (run_steps_not_1 budget t schedule r)
