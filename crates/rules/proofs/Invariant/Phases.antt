-- The classes of phases: which exclude each other, and that of linked claims as a range.
use mathlib.Core.Logic.{◌≢◌}
use Prim.Native.Nat.{ℕ, ◌≤◌}
use native.Mathlib.Omega.{arith}
use Rattle.rules.proofs.Ground.Deciding.{if_same}
use Rattle.rules.proofs.Invariant.View.{Outside, reserved, walking, waiting, Linked, validating, waiting_reader, holding}

pub outside_busy : {p : ℕ} → Outside p → p ≢ 0
outside_busy (reserved e) = omega arith
outside_busy (walking e) = omega arith
outside_busy (waiting e) = omega arith

pub linked_busy : {p : ℕ} → Linked p → p ≢ 0
linked_busy (validating e) = omega arith
linked_busy (waiting_reader e) = omega arith
linked_busy (holding e) = omega arith

pub linked_not_gone : {p : ℕ} → Linked p → p ≢ 6
linked_not_gone (validating e) = omega arith
linked_not_gone (waiting_reader e) = omega arith
linked_not_gone (holding e) = omega arith

pub outside_not_gone : {p : ℕ} → Outside p → p ≢ 6
outside_not_gone (reserved e) = omega arith
outside_not_gone (walking e) = omega arith
outside_not_gone (waiting e) = omega arith

pub not_both : {p : ℕ} → Outside p → Linked p → ⊥
not_both (reserved e) (validating d) = omega arith
not_both (reserved e) (waiting_reader d) = omega arith
not_both (reserved e) (holding d) = omega arith
not_both (walking e) (validating d) = omega arith
not_both (walking e) (waiting_reader d) = omega arith
not_both (walking e) (holding d) = omega arith
not_both (waiting e) (validating d) = omega arith
not_both (waiting e) (waiting_reader d) = omega arith
not_both (waiting e) (holding d) = omega arith

-- phases 3, 4 and 5, as a range
pub linked_in : {p : ℕ} → Linked p → (3 ≤ p) × (p ≤ 5)
linked_in (validating e) = omega arith
linked_in (waiting_reader e) = omega arith
linked_in (holding e) = omega arith

pub in_linked : {p : ℕ} → 3 ≤ p → p ≤ 5 → Linked p
in_linked {p} h l =
    if_same p 3 validating (λ d.
    if_same p 4 waiting_reader (λ d'. holding (omega arith)))
