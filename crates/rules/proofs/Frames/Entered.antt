-- What enter answers and leaves: `on`, and a seat that stands at the head with no word of the nodes changed. Of any tables; and in sound ones a seat
-- in phase 7 is never refused.
use Prim.Native.Nat.{ℕ}
use mathlib.Core.Path.{◌≡◌, refl, sym, ◌∙◌}
use mathlib.Core.Bool.{true}
use native.Mathlib.Omega.{arith}
use native.Mathlib.Decide.{dec_lt}
use borrow.Author.Tests.{lt-leb}
use Rattle.rules.specs.Tables.{Tables, seat_count, phase_at, own_at, prev_at, cur_at, phase}
use Rattle.rules.specs.Shape.{sound}
use Rattle.rules.specs.Answers.{Answer, on, refused, Done, answer_of}
use Rattle.rules.specs.Steps.{entering}
use Rattle.rules.specs.Calls.{enter, step}
use Rattle.rules.specs.Reserved.{HasEntered}
use Rattle.rules.proofs.Laws.Words.{seat_past}
use Rattle.rules.proofs.Laws.Shape.{is_sound, in_7}
use Rattle.rules.proofs.Laws.Answers.{answers_on}
use Rattle.rules.proofs.Rules.Effects.{Room}
use Rattle.rules.proofs.Rules.RuleEffects.{enter_stored}
use Rattle.rules.proofs.Rules.Accepting.{Entering, enter_refused, enter_accepted, enters, step_enters}
use Rattle.rules.proofs.Rules.RefusedExactly.{on_not_refused}
use Rattle.rules.proofs.Frames.SeatFrames.{sound_room}

-- ---- the answer
pub entering_says_on : (t : Tables) (s : ℕ) → Room t s → answer_of (entering t s) s ≡ on
unfolding entering
entering_says_on t s r = answers_on (entering t s) s ((enter_stored t s r).at_s phase_at (omega arith))

pub enter_answers : (t : Tables) (s : ℕ) (P : Answer → Type 0) → P on → ((number : ℕ) → P (refused number)) → P (enter t s).answer
enter_answers t s P entered not_entered = go (enters t s)
  where
    go : {d : Done Answer} → Entering t s d → P d.answer
    go (enter_refused number r) = not_entered number
    go (enter_accepted e h p) = rw (entering_says_on t s (sound_room t s e h)) entered

-- ---- the tables
pub enter_leaves : (t : Tables) (s : ℕ) → (enter t s).answer ≡ on → HasEntered t (enter t s).after s
enter_leaves t s = go (enters t s)
  where
    go : {d : Done Answer} → Entering t s d → d.answer ≡ on → HasEntered t d.after s
    go (enter_refused number r) q = on_not_refused (sym q)
    go (enter_accepted e h p) q = unfold entering in
        let w = enter_stored t s (sound_room t s e h) in
        record {
          same_nodes = refl;
          in_phase_1 = w.at_s phase_at (omega arith);
          same_own = w.at_s own_at (omega arith);
          no_prev = w.at_s prev_at (omega arith) ∙ (((is_sound t e).seat s).resting (in_7 p)).0;
          at_head = w.at_s cur_at (omega arith);
        }

pub enter_keeps_nodes : (t : Tables) (s : ℕ) → (enter t s).after.nodes ≡ t.nodes
enter_keeps_nodes t s = go (enters t s)
  where
    go : {d : Done Answer} → Entering t s d → d.after.nodes ≡ t.nodes
    go (enter_refused number r) = refl
    go (enter_accepted e h p) = unfold entering in refl

pub step_7_keeps_nodes : (t : Tables) (s : ℕ) → phase t s ≡ 7 → (step t s).after.nodes ≡ t.nodes
step_7_keeps_nodes t s p = rw (step_enters t s p) (enter_keeps_nodes t s)

-- ---- in phase 7 it is not refused: a seat that is not there is in phase 0
pub may_enter : (t : Tables) (s : ℕ) → sound t ≡ true → phase t s ≡ 7 → (enter t s).answer ≡ on
unfolding enter
may_enter t s e p = elim (dec_lt s (seat_count t)) [
  | yes h ↦ rw (e, lt-leb (seat_count t) s h, p) (entering_says_on t s (sound_room t s e h))
  | no h ↦ let z : phase t s ≡ 0 = seat_past t s phase_at (is_sound t e).seats_length (omega arith) in absurd (omega arith)
]
