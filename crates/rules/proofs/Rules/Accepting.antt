-- Why a call is refused, or what is known where it is accepted. Over any tables and numbers.
use Rattle.std.specs.Prelude.{if◌then◌else◌}
use Prim.Native.Nat.{ℕ, ◌≤◌, ◌<◌}
use mathlib.Core.Path.{◌≡◌, refl}
use mathlib.Core.Bool.{Bool, true, false, not}
use mathlib.Core.Logic.{◌≢◌, ◌⊎◌, inl, inr}
use native.Mathlib.Omega.{arith}
use borrow.Author.Tests.{eqb-true, eqb-false, leb-true, leb-false, ltb-true, ltb-false, not-false, lt-leb, ne_eqb}
use Rattle.rules.specs.Notation.{◌is◌, ◌≤?◌, ◌<?◌}
use Rattle.rules.specs.Tables.{Tables, seat_count, title, phase}
use Rattle.rules.specs.Comparison.{Claim}
use Rattle.rules.specs.Shape.{sound, is_kind, may_claim}
use Rattle.rules.specs.Fetch.{Fetched}
use Rattle.rules.specs.Answers.{Answer, node, refused, out, Done, done, answer_of, answered}
use Rattle.rules.specs.Steps.{leave, refetched, step_by_phase, entering}
use Rattle.rules.specs.Calls.{no_seat, reserved, reserve, enter, step, release}
use Rattle.rules.specs.Run.{refusal_of}
use Rattle.rules.specs.Play.{Call, reserve_call, enter_call, step_call, release_call}
use Rattle.rules.proofs.Ground.Logic.{branch, not_true, or_neither}
use Rattle.rules.proofs.Laws.Shape.{may_claim_law}
use Rattle.rules.specs.Refusing.{HasSeat, Proper, WritesOnSheet, WithinTitle, Refuses, damaged, no_such_seat, no_frames, beyond_title, no_kind, reads_on_sheet, not_idle, idle, not_holding, not_reserved, none_to_reserve, none_again}
use Rattle.rules.specs.Title.{ReservesBeyond, reserves_beyond}
use Rattle.rules.proofs.Rules.Reasons.{Fetching, fetching, Stepping, in_1, in_2, in_3, in_4, in_6, in_7, at_rest, steps}
use Rattle.rules.proofs.Ground.Deciding.{if_same}

-- what a refusal's number tells: it is never 0, 1 only for damaged tables, and 11 only of a reserve that ends beyond the title
pub record Tells (t : Tables) (c : Call) (number : ℕ) : Type 0 where
  pub not_0 : number ≢ 0
  pub if_1 : number ≡ 1 → sound t ≡ false
  pub if_11 : number ≡ 11 → ReservesBeyond t c

neither_1_nor_11 : {t : Tables} {c : Call} {number : ℕ} → number ≢ 0 → number ≢ 1 → number ≢ 11 → Tells t c number
neither_1_nor_11 x y z = record { not_0 = x; if_1 = λ q. absurd (y q); if_11 = λ q. absurd (z q) }

pub refusal_tells : {t : Tables} {c : Call} {number : ℕ} → Refuses t c number → Tells t c number
refusal_tells (damaged e) = record { not_0 = omega arith; if_1 = λ q. e; if_11 = λ q. absurd (omega arith) }
refusal_tells (no_such_seat e h) = neither_1_nor_11 (omega arith) (omega arith) (omega arith)
refusal_tells (no_frames w h) = neither_1_nor_11 (omega arith) (omega arith) (omega arith)
refusal_tells (beyond_title w h b) = record { not_0 = omega arith; if_1 = λ q. absurd (omega arith); if_11 = λ q. reserves_beyond b }
refusal_tells (no_kind w h i k k') = neither_1_nor_11 (omega arith) (omega arith) (omega arith)
refusal_tells (reads_on_sheet w h i x k) = neither_1_nor_11 (omega arith) (omega arith) (omega arith)
refusal_tells (not_idle w p y i d) = neither_1_nor_11 (omega arith) (omega arith) (omega arith)
refusal_tells (idle w e) = neither_1_nor_11 (omega arith) (omega arith) (omega arith)
refusal_tells (not_holding w d) = neither_1_nor_11 (omega arith) (omega arith) (omega arith)
refusal_tells (not_reserved w d) = neither_1_nor_11 (omega arith) (omega arith) (omega arith)
refusal_tells (none_to_reserve w p y i e n) = neither_1_nor_11 (omega arith) (omega arith) (omega arith)
refusal_tells (none_again w e n) = neither_1_nor_11 (omega arith) (omega arith) (omega arith)

-- a kind that no claim may have is none at all; or, on a sheet, it reads
no_such_kind : (sheet : Bool) (k : ℕ) → not (may_claim sheet k) ≡ true → ((k ≢ 1) × (k ≢ 2)) ⊎ ((sheet ≡ true) × (k ≡ 1))
unfolding may_claim is_kind
no_such_kind true k e = if_same k 1 (λ q. inr (refl, q)) (λ d. inl (d, eqb-false k 2 (not_true (k is 2) e)))
no_such_kind false k e = let q = or_neither (k is 1) (k is 2) (not_true (is_kind k) e) in inl (eqb-false k 1 q.0, eqb-false k 2 q.1)

-- every call on a seat looks at the tables first, and then at the seat's number
seat_first : (t : Tables) (s : ℕ) {d : Done Answer} (P : Done Answer → Type 0)
    → (sound t ≡ false → P (done (refused 1) t))
    → (sound t ≡ true → seat_count t ≤ s → P (done (refused 2) t))
    → (HasSeat t s → P d)
    → P (if not (sound t) then done (refused 1) t else if no_seat t s then done (refused 2) t else d)
seat_first t s P broken past there =
    branch P (not (sound t)) (λ e. broken (not_true (sound t) e)) (λ e.
    branch P (no_seat t s) (λ h. past (not-false (sound t) e) (leb-true (seat_count t) s h)) (λ h.
    there (record { is_sound = not-false (sound t) e; is_seat = leb-false (seat_count t) s h })))

-- and two of them want it in one phase
phase_wanted : (t : Tables) (s wanted number : ℕ) {d : Done Answer} (P : Done Answer → Type 0)
    → (HasSeat t s → phase t s ≢ wanted → P (done (refused number) t))
    → (HasSeat t s → phase t s ≡ wanted → P d)
    → HasSeat t s → P (if not (phase t s is wanted) then done (refused number) t else d)
phase_wanted t s wanted number P other there has =
    branch P (not (phase t s is wanted))
    (λ e. other has (eqb-false (phase t s) wanted (not_true (phase t s is wanted) e)))
    (λ e. there has (eqb-true (phase t s) wanted (not-false (phase t s is wanted) e)))

pub data Reserving (t : Tables) (s : ℕ) (c : Claim) : Done Answer → Type 0 where
  reserve_refused : (number : ℕ) → Refuses t (reserve_call s c) number → Reserving t s c (done (refused number) t)
  reserve_accepted : {f : Fetched} → sound t ≡ true → s < seat_count t → Proper c → WritesOnSheet t c → WithinTitle t c → phase t s ≡ 0 → Fetching t s c f → Reserving t s c (reserved t f)

pub reserving : (t : Tables) (s : ℕ) (c : Claim) → Reserving t s c (reserve t s c)
unfolding reserve
reserving t s c =
    seat_first t s (Reserving t s c) (λ e. reserve_refused 1 (damaged e)) (λ e h. reserve_refused 2 (no_such_seat e h)) (λ has.
    branch (Reserving t s c) (c.end ≤? c.start) (λ e. reserve_refused 3 (no_frames has (leb-true c.end c.start e))) (λ e₃.
    let frames = leb-false c.end c.start e₃ in
    branch (Reserving t s c) (title t <? c.end) (λ e. reserve_refused 11 (beyond_title has frames (ltb-true (title t) c.end e))) (λ e₁₁.
    let within = ltb-false (title t) c.end e₁₁ in
    branch (Reserving t s c) (not (may_claim t.sheet c.kind))
    (λ e. reserve_refused 4 (elim (no_such_kind t.sheet c.kind e) [
      | inl k ↦ no_kind has frames within k.0 k.1
      | inr k ↦ reads_on_sheet has frames within k.0 k.1
    ]))
    (λ e₄.
    let may = may_claim_law t.sheet c.kind (not-false (may_claim t.sheet c.kind) e₄) in
    let proper : Proper c = record { some = frames; reads_or_writes = may.0 } in
    branch (Reserving t s c) (not (phase t s is 0)) (λ e. reserve_refused 5 (not_idle has proper may.1 within (eqb-false (phase t s) 0 (not_true (phase t s is 0) e)))) (λ e₅.
    reserve_accepted has.is_sound has.is_seat proper may.1 within (eqb-true (phase t s) 0 (not-false (phase t s is 0) e₅)) (fetching t s c))))))

-- reserve answers with a node, or is refused
reserved_answers : (t : Tables) (f : Fetched) (P : Answer → Type 0) → ((n : ℕ) → P (node n)) → ((number : ℕ) → P (refused number)) → P (reserved t f).answer
unfolding reserved
reserved_answers t f P taken not_taken = branch (λ (d : Done Answer). P d.answer) (f.node is 0) (λ e. not_taken 8) (λ e. taken f.node)

pub reserve_answers : (t : Tables) (s : ℕ) (c : Claim) (P : Answer → Type 0) → ((n : ℕ) → P (node n)) → ((number : ℕ) → P (refused number)) → P (reserve t s c).answer
reserve_answers t s c P taken not_taken = go (reserving t s c)
  where
    go : {d : Done Answer} → Reserving t s c d → P d.answer
    go (reserve_refused number r) = not_taken number
    go (reserve_accepted {f} e h p y w i k) = reserved_answers t f P taken not_taken

pub data Entering (t : Tables) (s : ℕ) : Done Answer → Type 0 where
  enter_refused : (number : ℕ) → Refuses t (enter_call s) number → Entering t s (done (refused number) t)
  enter_accepted : sound t ≡ true → s < seat_count t → phase t s ≡ 7 → Entering t s (answered (entering t s) s)

pub enters : (t : Tables) (s : ℕ) → Entering t s (enter t s)
unfolding enter
enters t s =
    seat_first t s (Entering t s) (λ e. enter_refused 1 (damaged e)) (λ e h. enter_refused 2 (no_such_seat e h))
    (phase_wanted t s 7 14 (Entering t s) (λ has d. enter_refused 14 (not_reserved has d)) (λ has p. enter_accepted has.is_sound has.is_seat p))

pub data Stepped (t : Tables) (s : ℕ) : Done Answer → Type 0 where
  step_refused : (number : ℕ) → Refuses t (step_call s) number → Stepped t s (done (refused number) t)
  step_accepted : {d : Done Answer} → sound t ≡ true → s < seat_count t → phase t s ≢ 0 → Stepping t s d → Stepped t s d

pub stepped : (t : Tables) (s : ℕ) → Stepped t s (step t s)
unfolding step
stepped t s =
    seat_first t s (Stepped t s) (λ e. step_refused 1 (damaged e)) (λ e h. step_refused 2 (no_such_seat e h)) (λ has.
    branch (Stepped t s) (phase t s is 0)
    (λ e. step_refused 6 (idle has (eqb-true (phase t s) 0 e)))
    (λ e. step_accepted has.is_sound has.is_seat (eqb-false (phase t s) 0 e) (steps t s)))

-- "a step in phase 7 enters": the same answer, the same tables, the same refusals
pub step_enters : (t : Tables) (s : ℕ) → phase t s ≡ 7 → step t s ≡ enter t s
unfolding step step_by_phase enter
step_enters t s e = rw e

-- what an accepted step answers is said from the seat's new phase
module _ (t : Tables) (s : ℕ) where
  abbrev FromPhase : Done Answer → Type 0
  FromPhase d = refusal_of d.answer ≡ 0 → d.answer ≡ answer_of d.after s

  refetched_from_phase : (f : Fetched) → FromPhase (refetched t s f)
  unfolding refetched
  refetched_from_phase f = branch FromPhase (f.node is 0) (λ e q. absurd (omega arith)) (λ e q. refl)

  stepping_from_phase : {d : Done Answer} → Stepping t s d → FromPhase d
  stepping_from_phase (in_1 e w) q = refl
  stepping_from_phase (in_2 e w) q = refl
  stepping_from_phase (in_3 e w) q = refl
  stepping_from_phase (in_4 e w) q = refl
  stepping_from_phase (in_6 {f = f} e w) q = refetched_from_phase f q
  stepping_from_phase (in_7 e) q = refl
  stepping_from_phase (at_rest a b c d e f) q = refl

  stepped_from_phase : {d : Done Answer} → Stepped t s d → FromPhase d
  stepped_from_phase (step_refused number r) q = absurd ((refusal_tells r).not_0 q)
  stepped_from_phase (step_accepted e h b w) q = stepping_from_phase w q

  pub answers_from_phase : refusal_of (step t s).answer ≡ 0 → (step t s).answer ≡ answer_of (step t s).after s
  answers_from_phase = stepped_from_phase (stepped t s)

-- and there is such a seat
accepted_seat : {t : Tables} {s : ℕ} {d : Done Answer} → Stepped t s d → refusal_of d.answer ≡ 0 → s < seat_count t
accepted_seat (step_refused number r) q = absurd ((refusal_tells r).not_0 q)
accepted_seat (step_accepted e h b w) q = h

pub step_has_seat : (t : Tables) (s : ℕ) → refusal_of (step t s).answer ≡ 0 → s < seat_count t
step_has_seat t s = accepted_seat (stepped t s)

pub data Releasing (t : Tables) (s : ℕ) : Done Answer → Type 0 where
  release_refused : (number : ℕ) → Refuses t (release_call s) number → Releasing t s (done (refused number) t)
  release_accepted : sound t ≡ true → s < seat_count t → phase t s ≡ 5 → Releasing t s (done out (leave t s))

pub releasing : (t : Tables) (s : ℕ) → Releasing t s (release t s)
unfolding release
releasing t s =
    seat_first t s (Releasing t s) (λ e. release_refused 1 (damaged e)) (λ e h. release_refused 2 (no_such_seat e h))
    (phase_wanted t s 5 7 (Releasing t s) (λ has d. release_refused 7 (not_holding has d)) (λ has p. release_accepted has.is_sound has.is_seat p))

-- release answers `out`, or is refused
pub release_answers : (t : Tables) (s : ℕ) (P : Answer → Type 0) → P out → ((number : ℕ) → P (refused number)) → P (release t s).answer
release_answers t s P left not_left = go (releasing t s)
  where
    go : {d : Done Answer} → Releasing t s d → P d.answer
    go (release_refused number r) = not_left number
    go (release_accepted e h p) = left

-- a step is refused and changes nothing, or is the step by phase
pub step_or_same : (t : Tables) (s : ℕ) (P : Tables → Type 0) → P t
    → (sound t ≡ true → s < seat_count t → phase t s ≢ 0 → P (step_by_phase t s).after) → P (step t s).after
unfolding step
step_or_same t s P same accepted =
    seat_first t s (λ (d : Done Answer). P d.after) (λ e. same) (λ e h. same) (λ has.
    branch (λ (d : Done Answer). P d.after) (phase t s is 0) (λ e. same) (λ e. accepted has.is_sound has.is_seat (eqb-false (phase t s) 0 e)))

-- an accepted step of sound tables is the step by phase
pub step_is : (t : Tables) (s : ℕ) → sound t ≡ true → s < seat_count t → phase t s ≢ 0 → step t s ≡ step_by_phase t s
unfolding step
step_is t s e h d = rw (e, lt-leb (seat_count t) s h, ne_eqb (phase t s) 0 d)
