-- Every call leaves good tables good, so every table that is reached is good.
use Prim.Native.Nat.{ℕ, ◌<◌}
use mathlib.Core.Path.{◌≡◌}
use mathlib.Core.Bool.{Bool}
use mathlib.Core.Logic.{inl, inr}
use native.Mathlib.Omega.{arith}
use Rattle.rules.specs.Notation.{◌is◌}
use Rattle.rules.specs.Tables.{Tables, seat_count, start_at, end_at, kind_at, mark_at, phase_at, own_at, prev_at, cur_at, own, phase, fresh}
use Rattle.rules.specs.Comparison.{Claim, claim_of}
use Rattle.rules.specs.Fetch.{Fetched}
use Rattle.rules.specs.Answers.{Answer, Done}
use Rattle.rules.specs.Steps.{refetched}
use Rattle.rules.specs.Calls.{reserved, step}
use Rattle.rules.specs.Play.{Call, reserve_call, enter_call, step_call, release_call, call}
use Rattle.rules.specs.Reached.{Reached}
use Rattle.rules.proofs.Ground.Logic.{branch}
use Rattle.rules.proofs.Laws.Words.{seat_count_law, fresh_nodes_length, fresh_seats_length, fresh_node_word, fresh_link, fresh_seat_word}
use Rattle.rules.proofs.Ground.Following.{not_from_0}
use Rattle.rules.proofs.Invariant.View.{nodes_of, seats_of, Outside, Linked}
use Rattle.rules.proofs.Invariant.Phases.{outside_busy, linked_busy}
use Rattle.rules.proofs.Invariant.Clauses.{nothing, Seen, from_head, from_prev, from_cur, Invariant}
use Rattle.rules.proofs.Invariant.Known.{own_proper}
use Rattle.rules.proofs.Invariant.SeatShapes.{idle_seat}
use Rattle.rules.proofs.Invariant.SeatMoves.{not_stuck}
use Rattle.rules.proofs.Rules.Reasons.{Stepping, in_1, in_2, in_3, in_4, in_6, in_7, at_rest}
use Rattle.rules.proofs.Rules.Accepting.{Reserving, reserve_refused, reserve_accepted, reserving, Entering, enter_refused, enter_accepted, enters, Stepped, step_refused, step_accepted, stepped, Releasing, release_refused, release_accepted, releasing}
use Rattle.rules.proofs.Laws.RunSteps.{reached_has}
use Rattle.rules.proofs.Keeping.Good.{Good}
use Rattle.rules.proofs.Keeping.StepKeeps.{walking_keeps, waiting_keeps, reader_waiting_keeps, validating_keeps, leave_keeps, entering_keeps}
use Rattle.rules.proofs.Keeping.FetchKeeps.{fetch_keeps}

-- ---- single calls
module _ {N S : ℕ} {t : Tables} (g : Good N S t) (s : ℕ) where
  pub seat_in : s < seat_count t → s < S
  seat_in h = rw (seat_count_law t S g.aside.seats_long) at h

  refetched_good : (f : Fetched) → Good N S f.after → Good N S (refetched t s f).after
  unfolding refetched
  refetched_good f h = branch (λ (d : Done Answer). Good N S d.after) (f.node is 0) (λ e. g) (λ e. h)

  reserved_good : (f : Fetched) → Good N S f.after → Good N S (reserved t f).after
  unfolding reserved
  reserved_good f h = branch (λ (d : Done Answer). Good N S d.after) (f.node is 0) (λ e. g) (λ e. h)

  stepping_keeps : {d : Done Answer} → s < S → Stepping t s d → Good N S d.after
  stepping_keeps h (in_1 e w) = walking_keeps g s h e w
  stepping_keeps h (in_2 e w) = waiting_keeps g s h e w
  stepping_keeps h (in_3 e w) = validating_keeps g s h e w
  stepping_keeps h (in_4 e w) = reader_waiting_keeps g s h e w
  stepping_keeps h (in_6 {f = f} e w) = refetched_good f (fetch_keeps g s h (claim_of t (own t s)) (own_proper g.inv s (omega arith)) (λ q. g.aside.kinds q (own t s)) (inr e) w)
  stepping_keeps h (in_7 e) = entering_keeps g s h e
  stepping_keeps h (at_rest a b c d e f) = g

  stepped_keeps : {d : Done Answer} → Stepped t s d → Good N S d.after
  stepped_keeps (step_refused k r) = g
  stepped_keeps (step_accepted e h b w) = stepping_keeps (seat_in h) w

  pub step_keeps : Good N S (step t s).after
  step_keeps = stepped_keeps (stepped t s)

  reserving_keeps : {c : Claim} {d : Done Answer} → Reserving t s c d → Good N S d.after
  reserving_keeps (reserve_refused k r) = g
  reserving_keeps {c} (reserve_accepted {f = f} e h p k i z w) = reserved_good f (fetch_keeps g s (seat_in h) c p k (inl z) w)

  enters_keeps : {d : Done Answer} → Entering t s d → Good N S d.after
  enters_keeps (enter_refused k r) = g
  enters_keeps (enter_accepted e h p) = entering_keeps g s (seat_in h) p

  releasing_keeps : {d : Done Answer} → Releasing t s d → Good N S d.after
  releasing_keeps (release_refused k r) = g
  releasing_keeps (release_accepted e h p) = leave_keeps g s (seat_in h) p

pub call_keeps : {N S : ℕ} {t : Tables} → Good N S t → (c : Call) → Good N S (call t c).after
unfolding call
call_keeps {t = t} g (reserve_call s c) = reserving_keeps g s (reserving t s c)
call_keeps {t = t} g (enter_call s) = enters_keeps g s (enters t s)
call_keeps {t = t} g (step_call s) = step_keeps g s
call_keeps {t = t} g (release_call s) = releasing_keeps g s (releasing t s)

-- ---- fresh tables: every word is 0 but the title, which the invariant does not look at
module _ (sheet : Bool) (N S frames : ℕ) where
  abbrev t₀ : Tables
  t₀ = fresh sheet N S frames

  idle : (s : ℕ) → phase t₀ s ≡ 0
  idle s = fresh_seat_word sheet N S frames s phase_at

  nothing_seen : {a : ℕ} → Seen (nodes_of t₀).link (seats_of t₀) a → ⊥
  nothing_seen (from_head r) = not_from_0 r (fresh_link sheet N S frames 0)
  nothing_seen (from_prev j r) = not_from_0 r (fresh_seat_word sheet N S frames j prev_at)
  nothing_seen (from_cur j r) = not_from_0 r (fresh_seat_word sheet N S frames j cur_at)

  no_outside : {A : Type 0} (s : ℕ) → Outside (phase t₀ s) → A
  no_outside s o = absurd (outside_busy o (idle s))

  no_linked : {A : Type 0} (s : ℕ) → Linked (phase t₀ s) → A
  no_linked s l = absurd (linked_busy l (idle s))

  fresh_invariant : Invariant N (nodes_of t₀) (seats_of t₀)
  fresh_invariant = record {
    nodes = record {
      head_unmarked = fresh_node_word sheet N S frames 0 mark_at;
      blank_or_proper = λ a h. inl (record {
        start_0 = fresh_node_word sheet N S frames a start_at;
        end_0 = fresh_node_word sheet N S frames a end_at;
        kind_0 = fresh_node_word sheet N S frames a kind_at;
        mark_0 = fresh_node_word sheet N S frames a mark_at;
        link_0 = fresh_link sheet N S frames a;
      });
      marks = λ a. rw (fresh_node_word sheet N S frames a mark_at) (omega arith);
      links = λ a. nothing (fresh_link sheet N S frames a);
    };
    seats = λ s. rw (fresh_seat_word sheet N S frames s own_at, fresh_seat_word sheet N S frames s prev_at, fresh_seat_word sheet N S frames s cur_at) (idle_seat (idle s));
    distinct = λ i j d x. absurd (x (idle i));
    outside = λ s o. no_outside s o;
    linked = λ s l. no_linked s l;
    owner = λ r e. absurd (not_from_0 r (fresh_link sheet N S frames 0));
    seen_listed = λ z e. absurd (nothing_seen z);
    ordered = λ z h. absurd (nothing_seen z);
    ends = λ z. absurd (nothing_seen z);
    passed = λ s o. no_outside s o;
    stuck = λ s. rw (idle s) (not_stuck (omega arith) (omega arith));
    reader_cur = λ s l. no_linked s l;
    unsettled = λ g w l. no_linked g l;
  }

  fresh_good : Good N S t₀
  fresh_good = record { aside = record { nodes_long = fresh_nodes_length sheet N S frames; seats_long = fresh_seats_length sheet N S frames; seat = λ s. record { phases = rw (idle s) (λ q. (omega arith, omega arith, omega arith)); idle = λ z f h. fresh_seat_word sheet N S frames s f }; kinds = λ q a. rw (fresh_node_word sheet N S frames a kind_at) (omega arith) }; inv = fresh_invariant }

-- ---- every table that is reached
pub good : {N S : ℕ} {t : Tables} → Reached N S t → Good N S t
good {N} {S} r = reached_has (Good N S) (λ t c g. call_keeps g c) (λ sheet frames h. fresh_good sheet N S frames) r
