-- A release covers nothing that was not covered: whoever holds after it held before it, with the same claim.
use Prim.Native.Nat.{ℕ}
use mathlib.Core.Path.{◌≡◌, refl, sym, subst, ◌∙◌}
use mathlib.Core.Logic.{◌≢◌}
use native.Mathlib.Omega.{arith}
use Rattle.rules.specs.Tables.{Tables, phase_at, own_at, seat_count, phase, own}
use Rattle.rules.specs.Comparison.{Claim, claim_of}
use Rattle.rules.specs.Answers.{Answer, Done}
use Rattle.rules.specs.Calls.{release}
use Rattle.rules.specs.Play.{release_call, call}
use Rattle.rules.specs.Apart.{Covers, Holds}
use Rattle.rules.specs.Covered.{HolderCovers}
use Rattle.rules.proofs.Ground.Deciding.{if_same}
use Rattle.rules.proofs.Laws.Words.{same_seat_count}
use Rattle.rules.proofs.Rules.Accepting.{Releasing, release_refused, release_accepted, releasing}
use Rattle.rules.proofs.Rules.RuleEffects.{leave_stored}
use Rattle.rules.proofs.Frames.SeatFrames.{sound_room, other_seats_kept}
use Rattle.rules.proofs.Frames.NodeFrames.{release_kept}
use Rattle.rules.specs.Steps.{leave}

module _ (t : Tables) (s : ℕ) where
  -- a seat that holds after its release was refused it
  refused_then : {d : Done Answer} → Releasing t s d → Holds d.after s → d.after ≡ t
  unfolding leave
  refused_then (release_refused number why) holds = refl
  refused_then (release_accepted e h p) holds = absurd (let z = (leave_stored t s (sound_room t s e h)).at_s phase_at (omega arith) in omega arith)

  other_covers : (r f : ℕ) → r ≢ s → HolderCovers (release t s).after r f → HolderCovers t r f
  unfolding call
  other_covers r f d h =
      let u = (release t s).after in
      let kept = other_seats_kept t (release_call s) in
      let same_own : own u r ≡ own t r = kept.word r own_at d (omega arith) in
      let same_phase : phase u r ≡ phase t r = kept.word r phase_at d (omega arith) in
      let same_count : seat_count u ≡ seat_count t = same_seat_count t u kept.same_profile kept.same_length in
      let same_claim : claim_of u (own t r) ≡ claim_of t (own t r) = (release_kept t s).claim_kept (own t r) (λ z. z) in
      let seat = h.0 in
      (omega arith, sym same_phase ∙ h.1, subst (λ (c : Claim). Covers c f) same_claim (subst (λ (a : ℕ). Covers (claim_of u a) f) same_own h.2))

  pub release_covers : (r f : ℕ) → HolderCovers (release t s).after r f → HolderCovers t r f
  release_covers r f h =
      if_same r s
      (λ e. subst (λ (u : Tables). HolderCovers u r f) (refused_then (releasing t s) (subst (λ (a : ℕ). Holds (release t s).after a) e h.1)) h)
      (λ d. other_covers r f d h)
