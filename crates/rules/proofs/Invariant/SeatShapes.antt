-- The sound shapes of a seat: on its way, at rest, idle.
use mathlib.Core.Path.{◌≡◌, refl}
use mathlib.Core.Logic.{◌≢◌, ◌⊎◌, inl, inr}
use Prim.Native.Nat.{ℕ, ◌≤◌, ◌<◌}
use native.Mathlib.Omega.{arith}
use Rattle.rules.specs.Comparison.{Claim}
use Rattle.rules.proofs.Invariant.Clauses.{Named, nothing, SeatShape}
use Rattle.rules.proofs.Laws.Shape.{Resting, in_5, in_6, in_7}

pub not_waiting : {P C : ℕ} → P ≢ 2 → P ≢ 4 → (P ≡ 2) ⊎ (P ≡ 4) → 0 < C
not_waiting f g (inl e) = absurd (f e)
not_waiting f g (inr e) = absurd (g e)

pub on_its_way : {N : ℕ} {claims : ℕ → Claim} {P O Q C : ℕ} → P ≢ 0 → P ≤ 4 → ((P ≡ 2) ⊎ (P ≡ 4) → 0 < C) → 0 < O
    → Named N claims O → Named N claims Q → Named N claims C → SeatShape N claims P O Q C
on_its_way z h f o on pn cn = record {
  has_phase = omega arith;
  owning = λ e. o;
  resting = λ e. absurd (elim e [ in_5 x ↦ omega arith | in_6 x ↦ omega arith | in_7 x ↦ omega arith ]);
  at_cur = f;
  own_named = on;
  prev_named = pn;
  cur_named = cn;
}

pub at_rest : {N : ℕ} {claims : ℕ → Claim} {P O : ℕ} → Resting P → 0 < O → Named N claims O → SeatShape N claims P O 0 0
at_rest p o on = record {
  has_phase = elim p [ in_5 x ↦ omega arith | in_6 x ↦ omega arith | in_7 x ↦ omega arith ];
  owning = λ e. o;
  resting = λ e. (refl, refl);
  at_cur = not_waiting (elim p [ in_5 x ↦ omega arith | in_6 x ↦ omega arith | in_7 x ↦ omega arith ]) (elim p [ in_5 x ↦ omega arith | in_6 x ↦ omega arith | in_7 x ↦ omega arith ]);
  own_named = on;
  prev_named = nothing refl;
  cur_named = nothing refl;
}

pub idle_seat : {N : ℕ} {claims : ℕ → Claim} {P : ℕ} → P ≡ 0 → SeatShape N claims P 0 0 0
idle_seat z = record {
  has_phase = omega arith;
  owning = λ e. absurd (e z);
  resting = λ e. (refl, refl);
  at_cur = not_waiting (omega arith) (omega arith);
  own_named = nothing refl;
  prev_named = nothing refl;
  cur_named = nothing refl;
}
