-- One seat is stepped and no other call is made: what a step can come to in each phase, when the claim comes to rest, and what an unlink
-- leaves of the chain ahead.
use Prim.Native.Nat.{ℕ, ◌≤◌, ◌<◌}
use mathlib.Core.Path.{◌≡◌, refl, sym}
use mathlib.Core.Bool.{false}
use mathlib.Core.Logic.{◌≢◌, ◌⊎◌}
use native.Mathlib.Omega.{arith}
use borrow.Author.Tests.{eq-eqb, ne_eqb}
use Rattle.rules.specs.Tables.{Tables, node_width, next_at, phase_at, own_at, prev_at, cur_at, node_word, mark, link, next, phase, own, prev, cur, set_link, set_phase}
use Rattle.rules.specs.Reach.{lowest_free, Reach}
use Rattle.rules.specs.Fetch.{taken_out}
use Rattle.rules.specs.Answers.{answered}
use Rattle.rules.specs.Steps.{joined, walking, waiting_to_enter, validating, reader_waiting, step_by_phase}
use Rattle.rules.specs.Calls.{step}
use Rattle.rules.specs.Play.{step_call, call}
use Rattle.rules.specs.Reached.{single, Reached, asked}
use Rattle.rules.proofs.Ground.Logic.{clash}
use Rattle.rules.proofs.Laws.Words.{link_put_same, link_put_other, node_put_link, seat_count_law}
use Rattle.rules.proofs.Ground.Following.{Ends, unlink_keeps_reach, unlink_adds_none, unlink_adds_none_to_list, unlink_keeps_ends}
use Rattle.rules.proofs.Rules.RuleEffects.{cur_stored, phase_stored}
use Rattle.rules.proofs.Rules.Reasons.{Joined, Unlinking, takes_out, goes_past, Walking, walks, Waking, wakes_to_walk, wakes_to_validate, Validating, validates, by_phase_1, by_phase_2, by_phase_3, by_phase_4}
use Rattle.rules.proofs.Rules.Accepting.{step_is}
use Rattle.rules.proofs.Keeping.Good.{prev_in}
use Rattle.rules.proofs.Keeping.Aside.{node_room, seat_room}
use Rattle.rules.proofs.Keeping.CallKeeps.{good}
use Rattle.rules.proofs.Soundness.SoundReached.{reached_sound}

-- the step of seat s and of no other
abbrev pub alone : ℕ → Tables → Tables
alone s t = (step t s).after

-- the claim need not be stepped on: it holds, it waits at an unmarked claim, or no node is free for it
pub data AtRest (s : ℕ) (t : Tables) : Type 0 where
  rests_holding : phase t s ≡ 5 → AtRest s t
  rests_waiting : (phase t s ≡ 2) ⊎ (phase t s ≡ 4) → mark t (cur t s) ≢ 1 → AtRest s t
  rests_refused : phase t s ≡ 6 → lowest_free t s ≡ 0 → lowest_free (taken_out t) s ≡ 0 → AtRest s t

pub step_reached : {N S : ℕ} {t : Tables} → Reached N S t → (s : ℕ) → Reached N S (step t s).after
unfolding call
step_reached g s = asked g (single (step_call s))

-- ---- a step, by the phase: whatever holds of each outcome of the rule, with its reason, holds after the step
module _ {N S : ℕ} (s : ℕ) (s_in : s < S) {t : Tables} (g : Reached N S t) where
  pub accepted : phase t s ≢ 0 → step t s ≡ step_by_phase t s
  accepted d = step_is t s (reached_sound g) (rw (seat_count_law t S (good g).aside.seats_long) s_in) d

  module _ (P : Tables → Type 0) where
    by_rule : {u : Tables} → phase t s ≢ 0 → step_by_phase t s ≡ answered u s → (Reached N S u → P u) → P (step t s).after
    by_rule d e f = let q = accepted d in rw (q, e) (f (rw (q, e) at (step_reached g s)))

    pub after_1 : phase t s ≡ 1 → ((u : Tables) → Walking t s u → Reached N S u → P u) → P (step t s).after
    after_1 e f = by_rule (omega arith) (by_phase_1 t s e) (f (walking t s) (walks t s))

    pub after_2 : phase t s ≡ 2 → ((u : Tables) → Waking t s 1 u → Reached N S u → P u) → P (step t s).after
    after_2 e f = by_rule (omega arith) (by_phase_2 t s e) (f (waiting_to_enter t s) (wakes_to_walk t s))

    pub after_3 : phase t s ≡ 3 → ((u : Tables) → Validating t s u → Reached N S u → P u) → P (step t s).after
    after_3 e f = by_rule (omega arith) (by_phase_3 t s e) (f (validating t s) (validates t s))

    pub after_4 : phase t s ≡ 4 → ((u : Tables) → Waking t s 3 u → Reached N S u → P u) → P (step t s).after
    after_4 e f = by_rule (omega arith) (by_phase_4 t s e) (f (reader_waiting t s) (wakes_to_validate t s))

-- ---- what an unlink does, whether it takes the node out or only goes past it
pub record Unlinked (t u : Tables) (s : ℕ) : Type 0 where
  pub same_phase : phase u s ≡ phase t s
  pub same_own : own u s ≡ own t s
  pub same_prev : prev u s ≡ prev t s
  pub on_to_next : cur u s ≡ next t (cur t s)
  pub same_word : (a f : ℕ) → f < node_width → f ≢ next_at → node_word u.sheet u.nodes a f ≡ node_word t.sheet t.nodes a f
  pub ends : {a k : ℕ} → Ends (link t) a k → (j : ℕ) × Ends (link u) a j × (j ≤ k)
  pub keeps : {a b : ℕ} → b ≢ cur t s → Reach (link t) b a → Reach (link u) b a
  pub adds_none : {a b : ℕ} → Reach (link u) b a → Reach (link t) b a
  pub list_adds_none : {b : ℕ} → Reach (link u) b (link u 0) → Reach (link t) b (link t 0)
  pub still_joined : Joined t s → link u (prev t s) ≡ next t (cur t s)

pub is_not_joined : (t : Tables) (s : ℕ) → joined t s ≡ false → Joined t s → ⊥
unfolding joined
is_not_joined t s e j = clash (joined t s) (rw (ne_eqb (mark t (prev t s)) 1 j.unmarked, eq-eqb (link t (prev t s)) (cur t s) j.to_cur)) e

pub unlinked : {N S : ℕ} {t : Tables} (s : ℕ) {u : Tables} → s < S → Reached N S t → cur t s ≢ 0 → Unlinking t s u → Unlinked t u s
unlinked {t = t} s s_in g c (takes_out j) =
    let p = prev t s in
    let v = next t (cur t s) in
    let pos : 0 < cur t s = omega arith in
    let w = cur_stored t s (seat_room (good g).aside s s_in) v in
    let new : link (set_link t p v) p ≡ v = link_put_same t.sheet t.nodes p v (node_room (good g).aside p (prev_in (good g) s)) in
    let old : (a : ℕ) → a ≢ p → link (set_link t p v) a ≡ link t a = λ a d. link_put_other t.sheet t.nodes p a v (λ e. d (sym e)) in
    record {
      same_phase = w.at_s phase_at (omega arith);
      same_own = w.at_s own_at (omega arith);
      same_prev = w.at_s prev_at (omega arith);
      on_to_next = w.at_s cur_at (omega arith);
      same_word = λ a f h d. node_put_link t.sheet t.nodes p a f v h d;
      ends = λ e. unlink_keeps_ends (link t) (link (set_link t p v)) p (cur t s) pos j.to_cur new old e;
      keeps = λ d r. unlink_keeps_reach (link t) (link (set_link t p v)) p (cur t s) pos j.to_cur new old d r;
      adds_none = λ r. unlink_adds_none (link t) (link (set_link t p v)) p (cur t s) pos j.to_cur new old r;
      list_adds_none = λ r. unlink_adds_none_to_list (link t) (link (set_link t p v)) p (cur t s) pos j.to_cur new old r;
      still_joined = λ j. new;
    }
unlinked {t = t} s s_in g c (goes_past e) =
    let w = cur_stored t s (seat_room (good g).aside s s_in) (next t (cur t s)) in
    record {
      same_phase = w.at_s phase_at (omega arith);
      same_own = w.at_s own_at (omega arith);
      same_prev = w.at_s prev_at (omega arith);
      on_to_next = w.at_s cur_at (omega arith);
      same_word = λ a f h d. refl;
      ends = λ {a} {k} q. (k, q, omega arith);
      keeps = λ d r. r;
      adds_none = λ r. r;
      list_adds_none = λ r. r;
      still_joined = λ j. absurd (is_not_joined t s e j);
    }

-- ---- a seat that turns to wait at an unmarked cur is at rest
pub rests_in : {N S : ℕ} {t : Tables} → Reached N S t → (s : ℕ) → s < S → (P : ℕ) → (P ≡ 2) ⊎ (P ≡ 4) → mark t (cur t s) ≢ 1
    → AtRest s (set_phase t s P)
rests_in {t = t} g s s_in P p m =
    let w = phase_stored t s (seat_room (good g).aside s s_in) P in
    rests_waiting (rw (w.at_s phase_at (omega arith)) p) (rw (w.at_s cur_at (omega arith)) m)
