-- Run: a list of seat numbers stepped in order, within a budget.
use Rattle.std.specs.Prelude.{ℕ, zero, suc, ◌+◌, List, [], ◌∷◌, if◌then◌else◌}
use Rattle.rules.specs.Notation.{◌is◌}
use Rattle.rules.specs.Tables.{Tables}
use Rattle.rules.specs.Answers.{Answer, node, out, on, wait, held, back, refused, Done, done, ◌when◌, refusing}
use Rattle.rules.specs.Calls.{damaged, step}

-- "It returns the steps accepted, .. and the refusal met or 0."
pub record Ran : Type 0 where
  pub steps : ℕ
  pub refusal : ℕ

abbrev pub ran : ℕ → ℕ → Ran
ran steps refusal = record { steps = steps; refusal = refusal }

-- the number of a refusal, 0 of any other answer
abbrev pub refusal_of : Answer → ℕ
refusal_of (node n) = 0
refusal_of out = 0
refusal_of on = 0
refusal_of (wait n first end) = 0
refusal_of held = 0
refusal_of back = 0
refusal_of (refused number) = number

-- one accepted step, and then the rest
abbrev pub one_step_more : Done Ran → Done Ran
one_step_more rest = done (ran (rest.answer.steps + 1) rest.answer.refusal) rest.after

-- "It steps them in order and stops at the end, when the budget is used, or at the first refused entry. .. Accepted steps
-- stand; the refused entry changes nothing."
unfoldable pub run_steps : ℕ → Tables → List ℕ → Done Ran
run_steps zero t schedule = done (ran 0 0) t
run_steps (suc budget) t [] = done (ran 0 0) t
run_steps (suc budget) t (s ∷ rest) =
    if refusal_of (step t s).answer is 0 then one_step_more (run_steps budget (step t s).after rest)
    else done (ran 0 (refusal_of (step t s).answer)) t

-- "Run as a whole is refused only if the tables are found damaged at the start: 0 steps, refusal 1."
unfoldable pub run : Tables → List ℕ → ℕ → Done Ran
run t schedule budget = refusing (ran 0) ((1 when damaged t) ∷ []) t (run_steps budget t schedule)
