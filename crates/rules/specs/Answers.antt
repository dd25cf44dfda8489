-- What a call gives back, and how it is refused.
use Rattle.std.specs.Prelude.{ℕ, Bool, List, [], ◌∷◌, if◌then◌else◌}
use Rattle.rules.specs.Notation.{◌is◌}
use Rattle.rules.specs.Tables.{Tables, phase, own, cur}
use Rattle.rules.specs.Comparison.{claim_of, shared}
use Rattle.rules.specs.declared.SharedRun.{SharedRun}

-- 02 (vii): "Reserve answers `node n`, enter `on`". "Release: `out`. Step .. `wait n` .. `held` .. `back` .. `on`", or the number of the refusal. With
-- `wait n`, by 02 (v), "the first shared frame and the end of the shared run": "`wait` carries both"
pub data Answer : Type 0 where
  node : ℕ → Answer
  out : Answer
  on : Answer
  wait : ℕ → ℕ → ℕ → Answer
  held : Answer
  back : Answer
  refused : ℕ → Answer

-- an answer, and the tables after the call
pub record Done (A : Type 0) : Type 0 where
  pub answer : A
  pub after : Tables

abbrev pub done : {A : Type 0} → A → Tables → Done A
done answer after = record { answer = answer; after = after }

-- a reason to refuse: its number, and when
pub record Refusal : Type 0 where
  pub number : ℕ
  pub holds : Bool

infix 2 ◌when◌
abbrev pub ◌when◌ : ℕ → Bool → Refusal
number when test = record { number = number; holds = test }

-- what is made of the number of the first reason that holds, or what there is if none does
abbrev pub unless : {A : Type 0} → (ℕ → A) → List Refusal → A → A
unless say [] accepted = accepted
unless say (reason ∷ more) accepted =
    if reason.holds then say reason.number
    else unless say more accepted

-- "Each returns only its number .. and leaves tables .. as found": the first reason that holds, or what the call does if none does. Each call
-- gives its list, and the list is the order in which they are looked at: 01's "in rising number", but for 11, which "stands after 3 and
-- before 4" (02). `say` makes an answer of the number.
abbrev pub refusing : {A : Type 0} → (ℕ → A) → List Refusal → Tables → Done A → Done A
refusing say reasons t accepted = unless (λ number. done (say number) t) reasons accepted

-- what the claim waited at, that of cur, shares with the seat's own
abbrev pub shared_at_cur : Tables → ℕ → SharedRun
shared_at_cur t s = shared (claim_of t (cur t s)) (claim_of t (own t s))

-- "`wait` carries both, in the step": the node waited at, and the two numbers
abbrev pub waiting : Tables → ℕ → Answer
waiting t s = wait (cur t s) (shared_at_cur t s).first (shared_at_cur t s).end

-- "Step, from the seat's new phase: 2 or 4 `wait n` with n = cur; 5 `held`; 6 `back`; else `on`."
unfoldable pub answer_of : Tables → ℕ → Answer
answer_of t s =
    if phase t s is 2 then waiting t s
    else if phase t s is 4 then waiting t s
    else if phase t s is 5 then held
    else if phase t s is 6 then back
    else on

abbrev pub answered : Tables → ℕ → Done Answer
answered t s = done (answer_of t s) t
