-- Run is its steps: its count says how many entries were stepped, each accepted, and its tables are those after these steps; and it stops as
-- 01 says. Requests are the single calls that they come to, and what every call keeps every reached table has.
use Prim.Native.Nat.{ℕ, zero, suc, ◌≤◌}
use mathlib.Core.Path.{◌≡◌, refl, sym, ap, ◌∙◌}
use mathlib.Core.Bool.{Bool, true}
use mathlib.Core.List.{List, [], ◌∷◌, ◌++◌}
use native.Mathlib.Omega.{arith}
use native.Mathlib.Numerals.{add-one}
use borrow.Author.Tests.{eqb-true, eqb-false}
use Rattle.rules.specs.Notation.{◌is◌}
use Rattle.rules.specs.Tables.{Tables, fresh}
use Rattle.rules.specs.Shape.{sound}
use Rattle.rules.specs.Answers.{Done, done}
use Rattle.rules.specs.Calls.{damaged, step}
use Rattle.rules.specs.Run.{ran, refusal_of, one_step_more, run_steps, run}
use Rattle.rules.specs.Play.{Call, call, after_all}
use Rattle.rules.specs.Reached.{Request, single, running, after_requests, Reached, cleared, asked}
use Rattle.rules.specs.Refusing.{DamageRefuses, tables_damaged}
use Rattle.rules.specs.Run.{Ran}
use Rattle.rules.specs.Apart.{steps_of, no_more, one_more, IsItsSteps, Stops, at_the_end, budget_used, at_a_refusal, calls_made}
use Rattle.rules.proofs.Ground.Logic.{branch}
use Rattle.rules.proofs.Laws.Answers.{refused_as}

none_taken : (t : Tables) (schedule : List ℕ) (budget number : ℕ) → IsItsSteps t schedule budget (done (ran 0 number) t)
unfolding after_all
none_taken t schedule budget number = record { within_schedule = omega arith; within_budget = omega arith; tables_after = refl; accepted = no_more }

one_taken : (t : Tables) (s : ℕ) (rest : List ℕ) (budget : ℕ) (r : Done Ran) → refusal_of (step t s).answer ≡ 0
    → IsItsSteps (step t s).after rest budget r → IsItsSteps t (s ∷ rest) (suc budget) (one_step_more r)
unfolding after_all call
one_taken t s rest budget r e w = record {
  within_schedule = let h = w.within_schedule in omega arith;
  within_budget = let h = w.within_budget in omega arith;
  tables_after = rw (add-one r.answer.steps) w.tables_after;
  accepted = rw (add-one r.answer.steps) (one_more e w.accepted);
}

run_steps_are : (budget : ℕ) (t : Tables) (schedule : List ℕ) → IsItsSteps t schedule budget (run_steps budget t schedule)
unfolding run_steps
run_steps_are zero t schedule = none_taken t schedule 0 0
run_steps_are (suc budget) t [] = none_taken t [] (suc budget) 0
run_steps_are (suc budget) t (s ∷ rest) =
    branch (IsItsSteps t (s ∷ rest) (suc budget)) (refusal_of (step t s).answer is 0)
    (λ e. one_taken t s rest budget (run_steps budget (step t s).after rest) (eqb-true (refusal_of (step t s).answer) 0 e) (run_steps_are budget (step t s).after rest))
    (λ e. none_taken t (s ∷ rest) (suc budget) (refusal_of (step t s).answer))

pub run_is_its_steps : (t : Tables) (schedule : List ℕ) (budget : ℕ) → IsItsSteps t schedule budget (run t schedule budget)
unfolding run
run_is_its_steps t schedule budget =
    branch (IsItsSteps t schedule budget) (damaged t) (λ e. none_taken t schedule budget 1) (λ e. run_steps_are budget t schedule)

-- ---- where it stops
stops_later : (s : ℕ) (rest : List ℕ) (budget : ℕ) (r : Done Ran) → Stops rest budget r → Stops (s ∷ rest) (suc budget) (one_step_more r)
stops_later s rest budget r (at_the_end e z) = at_the_end (omega arith) z
stops_later s rest budget r (budget_used e z) = budget_used (omega arith) z
stops_later s rest budget r (at_a_refusal next more e h a) = at_a_refusal next more (rw (add-one r.answer.steps) e) (omega arith) a

run_steps_stop : (budget : ℕ) (t : Tables) (schedule : List ℕ) → Stops schedule budget (run_steps budget t schedule)
unfolding run_steps
run_steps_stop zero t schedule = budget_used refl refl
run_steps_stop (suc budget) t [] = at_the_end refl refl
run_steps_stop (suc budget) t (s ∷ rest) =
    branch (Stops (s ∷ rest) (suc budget)) (refusal_of (step t s).answer is 0)
    (λ e. stops_later s rest budget (run_steps budget (step t s).after rest) (run_steps_stop budget (step t s).after rest))
    (λ e. at_a_refusal s rest refl (omega arith) (refused_as (step t s).answer (eqb-false (refusal_of (step t s).answer) 0 e)))

pub sound_run_stops : (t : Tables) (schedule : List ℕ) (budget : ℕ) → sound t ≡ true → Stops schedule budget (run t schedule budget)
unfolding run
sound_run_stops t schedule budget e = rw e (run_steps_stop budget t schedule)

pub damaged_run_refused : (t : Tables) (schedule : List ℕ) (budget k : ℕ) → DamageRefuses t k → run t schedule budget ≡ done (ran 0 k) t
unfolding run
damaged_run_refused t schedule budget k (tables_damaged e) = rw e

-- ---- what every call keeps, calls one after the other keep, and a run; so if fresh tables have it, every reached table has it
module _ (P : Tables → Type 0) (kept : (t : Tables) (c : Call) → P t → P (call t c).after) where
  calls_keep : (calls : List Call) (t : Tables) → P t → P (after_all t calls)
  unfolding after_all
  calls_keep [] t p = p
  calls_keep (c ∷ calls) t p = calls_keep calls (call t c).after (kept t c p)

  pub run_keeps : (t : Tables) (schedule : List ℕ) (budget : ℕ) → P t → P (run t schedule budget).after
  run_keeps t schedule budget p = rw (run_is_its_steps t schedule budget).tables_after (calls_keep _ t p)

  pub requests_keep : (requests : List Request) (t : Tables) → P t → P (after_requests t requests)
  unfolding after_requests
  requests_keep [] t p = p
  requests_keep (single c ∷ rest) t p = requests_keep rest (call t c).after (kept t c p)
  requests_keep (running schedule budget ∷ rest) t p = requests_keep rest (run t schedule budget).after (run_keeps t schedule budget p)

  pub reached_has : {N S : ℕ} {t : Tables} → ((sheet : Bool) (frames : ℕ) → 1 ≤ frames → P (fresh sheet N S frames)) → Reached N S t → P t
  reached_has p (cleared a b c d sheet {frames} e) = p sheet frames e
  reached_has p (asked {t} r (single c)) = kept t c (reached_has p r)
  reached_has p (asked {t} r (running schedule budget)) = run_keeps t schedule budget (reached_has p r)

pub calls_reached : {N S : ℕ} {t : Tables} → Reached N S t → (calls : List Call) → Reached N S (after_all t calls)
calls_reached {N} {S} {t} r calls = calls_keep (Reached N S) (λ u c q. asked q (single c)) calls t r

after_both : (t : Tables) (first then : List Call) → after_all t (first ++ then) ≡ after_all (after_all t first) then
unfolding after_all
after_both t [] then = refl
after_both t (c ∷ first) then = after_both (call t c).after first then

pub requests_are_calls : (t : Tables) (requests : List Request) → after_requests t requests ≡ after_all t (calls_made t requests)
unfolding after_requests after_all calls_made
requests_are_calls t [] = refl
requests_are_calls t (single c ∷ rest) = requests_are_calls (call t c).after rest
requests_are_calls t (running schedule budget ∷ rest) =
    let r = run t schedule budget in
    let then = calls_made r.after rest in
    requests_are_calls r.after rest
    ∙ ap (λ u. after_all u then) (run_is_its_steps t schedule budget).tables_after
    ∙ sym (after_both t (steps_of schedule r.answer.steps) then)
