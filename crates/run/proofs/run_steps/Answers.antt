-- `run::run_steps` meets its promise.
use mathlib.Core.Bool.{not}
use mathlib.Core.Path.{refl, ap}
use native.Mathlib.Omega.{arith}
use Rattle.rules.proofs.Laws.Meanings.{some_number}
use Rattle.rules.proofs.Laws.Shape.{seats_few}
use borrow.Author.Rules.{rules}
use Rattle.run.proofs.Counting.{seat_there, still_there, left_all, left_again, left_refused, left_past, left_budget, left_end, left_stopped, still_fit, still_sound, now_damaged}
use Rattle.run.proofs.run_steps.Goals as goal

pub loop-steps-init : goal.loop-steps-init
loop-steps-init g c = (refl, refl, omega arith, omega arith, search rules, left_all _ _ _)

pub overflow_cast-count : goal.overflow_cast-count
overflow_cast-count g c = omega (arith, seats_few _ _ _ _ c.seat_count-count.ensures c.loop-steps.invariant.4)

pub seat_word_within-before-requires : goal.seat_word_within-before-requires
seat_word_within-before-requires g c = record { has_seat = seat_there _ _ _ _ c.seat_count-count.ensures c.if-count-s.false; has_word = search rules }

pub seat_word_within-after-requires : goal.seat_word_within-after-requires
seat_word_within-after-requires g c = record { has_seat = still_there _ _ _ _ c.seat_count-count.ensures c.if-count-s.false _ (search rules); has_word = search rules }

pub is_kept_sound-requires : goal.is_kept_sound-requires
is_kept_sound-requires g c = search still_fit

pub loop-steps-preserved : goal.loop-steps-preserved
loop-steps-preserved g c =
    let loop = c.loop-steps.invariant in
    let stepped = c.in_default.ensures in (
      search rules,
      search rules,
      omega (arith, loop.2, c.if-steps-budget.false),
      omega (arith, loop.3, c.if-schedule-steps.false),
      still_sound _ _ _ _ _ _ _ _ _ _ stepped c.seat_word_within-before.ensures c.seat_word_within-after.ensures c.is_kept_sound.ensures (ap not c.if-not-is_kept_sound.false) loop.4,
      left_again _ _ _ _ _ _ _ _ _ _ _ loop.5 stepped refl (omega (arith, loop.2, c.if-steps-budget.false)) (omega (arith, loop.3, c.if-schedule-steps.false)) refl,
    )

pub returns-then-steps-budget : goal.returns-then-steps-budget
returns-then-steps-budget g c = search left_budget

pub returns-then-schedule-steps : goal.returns-then-schedule-steps
returns-then-schedule-steps g c = search left_end

pub returns-then-count-s : goal.returns-then-count-s
returns-then-count-s g c =
    let loop = c.loop-steps.invariant in
    left_past _ _ _ _ _ _ _ _ _ loop.5 loop.4 c.seat_count-count.ensures c.if-count-s.true refl (omega (arith, loop.2, c.if-steps-budget.false)) (omega (arith, loop.3, c.if-schedule-steps.false))

pub returns-in-Err : goal.returns-in-Err
returns-in-Err g c =
    let loop = c.loop-steps.invariant in
    left_refused _ _ _ _ _ _ _ _ _ _ _ loop.5 c.in-Err.ensures refl (omega (arith, loop.2, c.if-steps-budget.false)) (omega (arith, loop.3, c.if-schedule-steps.false)) (some_number _)

pub returns-then-not-is_kept_sound : goal.returns-then-not-is_kept_sound
returns-then-not-is_kept_sound g c =
    let loop = c.loop-steps.invariant in
    let stepped = c.in_default.ensures in
    left_stopped _ _ _ _ _ _ _ _
    (left_again _ _ _ _ _ _ _ _ _ _ _ loop.5 stepped refl (omega (arith, loop.2, c.if-steps-budget.false)) (omega (arith, loop.3, c.if-schedule-steps.false)) refl)
    c.stop_at_damage.ensures
    (now_damaged _ _ _ _ _ _ _ _ _ _ stepped c.seat_word_within-before.ensures c.seat_word_within-after.ensures c.is_kept_sound.ensures (ap not c.if-not-is_kept_sound.true))
    (omega (arith, loop.2, c.if-steps-budget.false)) (omega (arith, loop.3, c.if-schedule-steps.false))
