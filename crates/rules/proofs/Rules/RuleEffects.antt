-- What each rule does to its seat's words, in any tables that have room for the seat.
use Prim.Native.Nat.{ℕ}
use native.Mathlib.Omega.{arith}
use Rattle.rules.specs.Tables.{Tables, seat_word, phase_at, own_at, prev_at, cur_at, next, head, cur, set_phase, set_prev, set_cur}
use Rattle.rules.specs.Fetch.{reserve_for}
use Rattle.rules.specs.Steps.{entering, move_to, link_in, pass, hold, withdraw, leave}
use Rattle.rules.proofs.Rules.Effects.{Room, stored, Seated, as_found, put, cleared}

module _ (t : Tables) (s : ℕ) (r : Room t s) where
  abbrev words : ℕ → ℕ
  words = seat_word t.sheet t.seats s

  pub phase_stored : (P : ℕ) → Seated t.sheet t.seats (set_phase t s P).seats s (stored words phase_at P)
  phase_stored P = put r (as_found t.sheet t.seats s) phase_at P (omega arith)

  pub cur_stored : (C : ℕ) → Seated t.sheet t.seats (set_cur t s C).seats s (stored words cur_at C)
  cur_stored C = put r (as_found t.sheet t.seats s) cur_at C (omega arith)

  pub place_stored : (Q C : ℕ) → Seated t.sheet t.seats (set_cur (set_prev t s Q) s C).seats s (stored (stored words prev_at Q) cur_at C)
  place_stored Q C = put r (put r (as_found t.sheet t.seats s) prev_at Q (omega arith)) cur_at C (omega arith)

  pub pass_stored : Seated t.sheet t.seats (pass t s).seats s (stored (stored words prev_at (cur t s)) cur_at (next t (cur t s)))
  unfolding pass
  pass_stored = place_stored (cur t s) (next t (cur t s))

  pub move_stored : (P Q C : ℕ) → Seated t.sheet t.seats (move_to t s P Q C).seats s (stored (stored (stored words phase_at P) prev_at Q) cur_at C)
  move_stored P Q C = put r (put r (put r (as_found t.sheet t.seats s) phase_at P (omega arith)) prev_at Q (omega arith)) cur_at C (omega arith)

  -- linking in changes no seat
  pub start_stored : (P Q C : ℕ) → Seated t.sheet t.seats (move_to (link_in t s) s P Q C).seats s (stored (stored (stored words phase_at P) prev_at Q) cur_at C)
  unfolding link_in
  start_stored P Q C = move_stored P Q C

  pub hold_stored : Seated t.sheet t.seats (hold t s).seats s (stored (stored (stored words phase_at 5) prev_at 0) cur_at 0)
  unfolding hold
  hold_stored = move_stored 5 0 0

  pub withdraw_stored : Seated t.sheet t.seats (withdraw t s).seats s (stored (stored (stored words phase_at 6) prev_at 0) cur_at 0)
  unfolding withdraw
  withdraw_stored = move_stored 6 0 0

  pub leave_stored : Seated t.sheet t.seats (leave t s).seats s (λ f. 0)
  unfolding leave
  leave_stored = cleared t.sheet t.seats s r

  pub reserve_stored : (a : ℕ) → Seated t.sheet t.seats (reserve_for t s a).seats s (stored (stored (stored (stored words phase_at 7) own_at a) prev_at 0) cur_at 0)
  unfolding reserve_for
  reserve_stored a =
      put r (put r (put r (put r (as_found t.sheet t.seats s) phase_at 7 (omega arith)) own_at a (omega arith)) prev_at 0 (omega arith)) cur_at 0 (omega arith)

  pub enter_stored : Seated t.sheet t.seats (entering t s).seats s (stored (stored words phase_at 1) cur_at (head t))
  unfolding entering
  enter_stored = put r (phase_stored 1) cur_at (head t) (omega arith)
