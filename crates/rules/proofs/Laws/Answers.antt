-- What an answer tells: a refusal its number, and the answer of a step the seat's new phase.
use Prim.Native.Nat.{ℕ}
use mathlib.Core.Path.{◌≡◌, refl}
use mathlib.Core.Logic.{◌≢◌, ◌⊎◌, inl, inr}
use native.Mathlib.Omega.{arith}
use borrow.Author.Tests.{eqb-true}
use Rattle.rules.specs.Notation.{◌is◌}
use Rattle.rules.specs.Tables.{Tables, phase}
use Rattle.rules.specs.Run.{refusal_of}
use Rattle.rules.specs.Answers.{Answer, node, out, on, wait, held, back, refused, waiting, answer_of}
use Rattle.rules.proofs.Ground.Logic.{branch}

-- an answer that is a refusal is the refusal of its number
pub refused_as : (a : Answer) → refusal_of a ≢ 0 → a ≡ refused (refusal_of a)
refused_as (node n) d = absurd (d refl)
refused_as out d = absurd (d refl)
refused_as on d = absurd (d refl)
refused_as (wait n first end) d = absurd (d refl)
refused_as held d = absurd (d refl)
refused_as back d = absurd (d refl)
refused_as (refused number) d = refl

-- an answer from the seat's phase is no refusal
pub answer_accepts : (t : Tables) (s : ℕ) → refusal_of (answer_of t s) ≡ 0
unfolding answer_of
answer_accepts t s =
    branch (λ a. refusal_of a ≡ 0) (phase t s is 2) (λ e. refl)
    (λ e. branch (λ a. refusal_of a ≡ 0) (phase t s is 4) (λ e. refl)
    (λ e. branch (λ a. refusal_of a ≡ 0) (phase t s is 5) (λ e. refl)
    (λ e. branch (λ a. refusal_of a ≡ 0) (phase t s is 6) (λ e. refl) (λ e. refl))))

module _ (t : Tables) (s : ℕ) where
  pub answers_wait : (phase t s ≡ 2) ⊎ (phase t s ≡ 4) → answer_of t s ≡ waiting t s
  unfolding answer_of
  answers_wait (inl p) = rw p
  answers_wait (inr p) = rw p

  pub answers_on : phase t s ≡ 1 → answer_of t s ≡ on
  unfolding answer_of
  answers_on p = rw p

  pub answers_held : phase t s ≡ 5 → answer_of t s ≡ held
  unfolding answer_of
  answers_held p = rw p

  pub answers_back : phase t s ≡ 6 → answer_of t s ≡ back
  unfolding answer_of
  answers_back p = rw p

  -- a seat that is told `back` is in phase 6
  pub back_in : answer_of t s ≡ back → phase t s ≡ 6
  unfolding answer_of
  back_in =
      branch In6 (phase t s is 2) (λ e q. let z : ◌≡◌ {A = ℕ} 0 1 = cc in absurd (omega arith))
      (λ e. branch In6 (phase t s is 4) (λ e q. let z : ◌≡◌ {A = ℕ} 0 1 = cc in absurd (omega arith))
      (λ e. branch In6 (phase t s is 5) (λ e q. let z : ◌≡◌ {A = ℕ} 0 1 = cc in absurd (omega arith))
      (λ e. branch In6 (phase t s is 6) (λ e q. eqb-true (phase t s) 6 e)
      (λ e q. let z : ◌≡◌ {A = ℕ} 0 1 = cc in absurd (omega arith)))))
    where
      In6 : Answer → Type 0
      In6 a = a ≡ back → phase t s ≡ 6

  -- a seat that is told to wait is in phase 2 or 4, and is told where, and for which frames, by its cur
  pub waits_in : (n first end : ℕ) → answer_of t s ≡ wait n first end → ((phase t s ≡ 2) ⊎ (phase t s ≡ 4)) × (waiting t s ≡ wait n first end)
  unfolding answer_of
  waits_in n first end =
      branch So (phase t s is 2) (λ e q. (inl (eqb-true (phase t s) 2 e), q))
      (λ e. branch So (phase t s is 4) (λ e q. (inr (eqb-true (phase t s) 4 e), q))
      (λ e. branch So (phase t s is 5) (λ e q. let z : ◌≡◌ {A = ℕ} 0 1 = cc in absurd (omega arith))
      (λ e. branch So (phase t s is 6) (λ e q. let z : ◌≡◌ {A = ℕ} 0 1 = cc in absurd (omega arith))
      (λ e q. let z : ◌≡◌ {A = ℕ} 0 1 = cc in absurd (omega arith)))))
    where
      So : Answer → Type 0
      So a = a ≡ wait n first end → ((phase t s ≡ 2) ⊎ (phase t s ≡ 4)) × (waiting t s ≡ wait n first end)

  -- such an answer is no refusal
  pub answers_no_refusal : (k : ℕ) → answer_of t s ≡ refused k → ⊥
  unfolding answer_of
  answers_no_refusal k =
      branch (λ a. a ≡ refused k → ⊥) (phase t s is 2) (λ e q. let z : ◌≡◌ {A = ℕ} 0 1 = cc in omega arith)
      (λ e. branch (λ a. a ≡ refused k → ⊥) (phase t s is 4) (λ e q. let z : ◌≡◌ {A = ℕ} 0 1 = cc in omega arith)
      (λ e. branch (λ a. a ≡ refused k → ⊥) (phase t s is 5) (λ e q. let z : ◌≡◌ {A = ℕ} 0 1 = cc in omega arith)
      (λ e. branch (λ a. a ≡ refused k → ⊥) (phase t s is 6) (λ e q. let z : ◌≡◌ {A = ℕ} 0 1 = cc in omega arith)
      (λ e q. let z : ◌≡◌ {A = ℕ} 0 1 = cc in omega arith))))
