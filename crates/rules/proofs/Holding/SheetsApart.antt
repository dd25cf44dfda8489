-- A sheet that is reached: it stays a sheet, its holders share no frame, and whoever is linked in holds.
use Prim.Native.Nat.{ℕ}
use mathlib.Core.Path.{◌≡◌, refl, ◌∙◌}
use mathlib.Core.Bool.{not}
use mathlib.Core.List.{List}
use mathlib.Core.Logic.{◌≢◌, inl, inr}
use native.Mathlib.Omega.{arith}
use Rattle.rules.specs.Notation.{◌is◌}
use Rattle.rules.specs.Tables.{Tables, kind, link, own, fresh, node_count, seat_count}
use Rattle.rules.specs.Shape.{lengths_fit}
use Rattle.rules.specs.Answers.{Done, done}
use Rattle.rules.specs.Calls.{clear}
use Rattle.rules.specs.Reach.{list_of}
use Rattle.rules.specs.Board.{holders, covered_by}
use Rattle.rules.specs.Play.{Call, call}
use Rattle.rules.specs.Reached.{Request, after_requests, Reached}
use Rattle.rules.specs.Apart.{Covers, claim_of_seat, Holds, LinkedIn, Stands}
use Rattle.rules.specs.Covered.{added_up}
use Rattle.rules.specs.Sheets.{OnSheet, idle, walking, waiting, holding, reserved, HolderOf, OneAfterTheOther}
use Rattle.rules.proofs.Ground.Logic.{branch}
use Rattle.rules.proofs.Laws.Covered.{holders_apart}
use Rattle.rules.proofs.Laws.RunSteps.{requests_keep}
use Rattle.rules.proofs.Invariant.View.{seats_of}
use Rattle.rules.proofs.Invariant.Clauses.{Seen}
use Rattle.rules.proofs.Invariant.Known.{seen_proper}
use Rattle.rules.proofs.Frames.SeatFrames.{other_seats_kept}
use Rattle.rules.proofs.Keeping.CallKeeps.{good}
use Rattle.rules.proofs.Soundness.SoundReached.{reached_sound}
use Rattle.rules.proofs.Soundness.SoundSheets.{sheet_phase}
use Rattle.rules.proofs.Holding.Exclusion.{both_read_law}
use Rattle.rules.proofs.Holding.ListOrder.{in_turn}
use Rattle.rules.proofs.Holding.Standing.{of_one_seat}

-- ---- the profile
pub call_profile : (t : Tables) (c : Call) → (call t c).after.sheet ≡ t.sheet
call_profile t c = (other_seats_kept t c).same_profile

pub requests_profile : (t : Tables) (requests : List Request) → (after_requests t requests).sheet ≡ t.sheet
requests_profile t requests = requests_keep (λ u. u.sheet ≡ t.sheet) (λ u c e. call_profile u c ∙ e) requests t refl

pub clear_profile : (t : Tables) (frames : ℕ) → (clear t frames).after.sheet ≡ t.sheet
unfolding clear fresh
clear_profile t frames =
    branch (λ (d : Done ℕ). d.after.sheet ≡ t.sheet) (not (lengths_fit t)) (λ e. refl) (λ e.
    branch (λ (d : Done ℕ). d.after.sheet ≡ t.sheet) (frames is 0) {y = done 0 (fresh t.sheet (node_count t) (seat_count t) frames)} (λ e. refl) (λ e. refl))

module _ {N S : ℕ} {t : Tables} (r : Reached N S t) (q : OnSheet t) where
  -- ---- who is linked in
  pub linked_holds : (s : ℕ) → LinkedIn t s → Holds t s
  linked_holds s l = elim (sheet_phase t (reached_sound r) q s) [
    | idle e ↦ absurd (let a = l.0 in omega arith)
    | walking e ↦ absurd (let a = l.0 in omega arith)
    | waiting e ↦ absurd (let a = l.0 in omega arith)
    | holding e ↦ e
    | reserved e ↦ absurd (let a = l.1 in omega arith)
  ]

  pub stands_for_holder : (a : ℕ) → Stands t a → HolderOf t a
  stands_for_holder a w = let o = of_one_seat (good r) a w in record { seat = o.seat; owns = o.owns; holds = linked_holds o.seat o.linked_in }

  -- ---- holders: two that share a frame would both read
  pub sheet_apart : (i j frame : ℕ) → i ≢ j → Holds t i → Holds t j → Covers (claim_of_seat t i) frame → Covers (claim_of_seat t j) frame → ⊥
  sheet_apart i j frame d hi hj ci cj =
      (good r).aside.kinds q (own t i) (both_read_law (good r).inv i j frame d hi hj ci.0 ci.1 cj.0 cj.1).0

  pub sheet_sum : covered_by (holders t) ≡ added_up (holders t)
  sheet_sum = holders_apart t (λ i j frame d hi hj. sheet_apart i j frame d hi.1 hj.1 hi.2 hj.2)

  -- ---- the list
  all_write : (a : ℕ) → Seen (link t) (seats_of t) a → kind t a ≡ 2
  all_write a p = elim (seen_proper (good r).inv p).reads_or_writes [ inl k ↦ absurd ((good r).aside.kinds q a k) | inr k ↦ k ]

  pub one_after_the_other : OneAfterTheOther t (list_of t)
  one_after_the_other = in_turn (good r) all_write
