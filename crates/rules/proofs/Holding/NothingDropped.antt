-- A linked claim stays as it is over any calls, unless its seat gives it up: by an accepted release, or a step answered `back`.
use Prim.Native.Nat.{ℕ, ◌<◌}
use mathlib.Core.Path.{◌≡◌, refl, sym, ap, ◌∙◌}
use mathlib.Core.List.{List, [], ◌∷◌}
use mathlib.Core.Logic.{◌≢◌, ◌⊎◌, inl, inr}
use native.Mathlib.Omega.{arith}
use borrow.Author.Tests.{ne_eqb, eqb-false}
use Rattle.rules.specs.Tables.{Tables, tables, phase_at, own_at, mark, next, phase, own, cur}
use Rattle.rules.specs.Comparison.{Claim, claim_of}
use Rattle.rules.specs.Answers.{Answer, back, Done, answered}
use Rattle.rules.specs.Steps.{withdraw, hold, pass}
use Rattle.rules.specs.Calls.{step, release}
use Rattle.rules.specs.Play.{Call, reserve_call, enter_call, step_call, release_call, call, seat_of, after_all}
use Rattle.rules.specs.Reached.{Request, after_requests}
use Rattle.rules.specs.Apart.{LinkedIn, Stands, GivesUp, released, withdrawn, GivenUp, now, later, calls_made, StillStands}
use Rattle.rules.proofs.Ground.Deciding.{if_same}
use Rattle.rules.proofs.Laws.Answers.{answers_back}
use Rattle.rules.proofs.Laws.RunSteps.{requests_are_calls}
use Rattle.rules.proofs.Invariant.View.{Linked, validating, waiting_reader, holding}
use Rattle.rules.proofs.Invariant.Phases.{linked_busy, linked_in, in_linked}
use Rattle.rules.proofs.Rules.Effects.{Room, Seated}
use Rattle.rules.proofs.Rules.RuleEffects.{phase_stored, cur_stored, pass_stored, hold_stored, withdraw_stored}
use Rattle.rules.proofs.Rules.Reasons.{Unlinking, takes_out, goes_past, Waking, wakes, stays, reader_holds, reader_unlinks, reader_passes, reader_waits, writer_holds, writer_unlinks, writer_passes, withdraws, Validating, validates_reader, validates_writer, Stepping, in_1, in_2, in_3, in_4, in_6, in_7, at_rest}
use Rattle.rules.proofs.Rules.Accepting.{Reserving, reserve_refused, reserve_accepted, reserving, Entering, enter_refused, enter_accepted, enters, Stepped, step_refused, step_accepted, stepped, Releasing, release_refused, release_accepted, releasing}
use Rattle.rules.proofs.Keeping.Aside.{seat_room}
use Rattle.rules.proofs.Keeping.Good.{Good}
use Rattle.rules.proofs.Keeping.Hops.{on_list, is_listed}
use Rattle.rules.proofs.Keeping.CallKeeps.{call_keeps, seat_in}
use Rattle.rules.proofs.Frames.SeatFrames.{other_seats_kept}
use Rattle.rules.proofs.Frames.NodeFrames.{step_3_kept, step_4_kept, step_5_kept}
use Rattle.rules.proofs.Frames.ClaimFrames.{others_claims_kept}

-- ---- a step of the seat itself
-- the claim is still linked, on the same node, or the answer is `back`
data Retained (s : ℕ) (t : Tables) (d : Done Answer) : Type 0 where
  still_linked : Linked (phase d.after s) → own d.after s ≡ own t s → Retained s t d
  told_back : d.answer ≡ back → Retained s t d

stored_linked : {t : Tables} {nodes seats : List ℕ} {s : ℕ} {words : ℕ → ℕ} → Seated t.sheet t.seats seats s words → Linked (words phase_at)
    → words own_at ≡ own t s → Retained s t (answered (tables t.sheet nodes seats) s)
stored_linked w l e = still_linked (rw (w.at_s phase_at (omega arith)) l) (w.at_s own_at (omega arith) ∙ e)

module _ {N S : ℕ} {t : Tables} (g : Good N S t) (s : ℕ) (s_in : s < S) (l : Linked (phase t s)) where
  abbrev r : Room t s
  r = seat_room g.aside s s_in

  unlinking : {u : Tables} → Unlinking t s u → Retained s t (answered u s)
  unlinking (takes_out j) = stored_linked (cur_stored t s r (next t (cur t s))) l refl
  unlinking (goes_past e) = stored_linked (cur_stored t s r (next t (cur t s))) l refl

  retained_3 : {u : Tables} → Validating t s u → Retained s t (answered u s)
  unfolding hold pass withdraw
  retained_3 (validates_reader k (reader_holds f)) = stored_linked (hold_stored t s r) (holding refl) refl
  retained_3 (validates_reader k (reader_unlinks c m w)) = unlinking w
  retained_3 (validates_reader k (reader_passes c m f)) = stored_linked (pass_stored t s r) l refl
  retained_3 (validates_reader k (reader_waits c m f h)) = stored_linked (phase_stored t s r 4) (waiting_reader refl) refl
  retained_3 (validates_writer k (writer_holds f)) = stored_linked (hold_stored t s r) (holding refl) refl
  retained_3 (validates_writer k (writer_unlinks d c m w)) = unlinking w
  retained_3 (validates_writer k (writer_passes d c m f)) = stored_linked (pass_stored t s r) l refl
  retained_3 (validates_writer k (withdraws d f)) = told_back (answers_back (withdraw t s) s ((withdraw_stored t s r).at_s phase_at (omega arith)))

  retained_4 : {u : Tables} → Waking t s 3 u → Retained s t (answered u s)
  retained_4 (wakes m) = stored_linked (phase_stored t s r 3) (validating refl) refl
  retained_4 (stays m) = still_linked l refl

  retained_stepping : {d : Done Answer} → Stepping t s d → Retained s t d
  retained_stepping (in_1 e w) = let z = linked_in l in absurd (omega arith)
  retained_stepping (in_2 e w) = let z = linked_in l in absurd (omega arith)
  retained_stepping (in_3 e w) = retained_3 w
  retained_stepping (in_4 e w) = retained_4 w
  retained_stepping (in_6 e w) = let z = linked_in l in absurd (omega arith)
  retained_stepping (in_7 e) = let z = linked_in l in absurd (omega arith)
  retained_stepping (at_rest a b c d e f) = still_linked l refl

module _ {N S : ℕ} {t : Tables} (g : Good N S t) (s : ℕ) (l : Linked (phase t s)) where
  retained_step : {d : Done Answer} → Stepped t s d → Retained s t d
  retained_step (step_refused k x) = still_linked l refl
  retained_step (step_accepted e h b w) = retained_stepping g s (seat_in g s h) l w

  -- no step of a linked claim changes it
  step_keeps_claim : Linked (phase t s) → claim_of (step t s).after (own t s) ≡ claim_of t (own t s)
  step_keeps_claim (validating p) = (step_3_kept t s p).claim_kept (own t s) (λ z. z)
  step_keeps_claim (waiting_reader p) = (step_4_kept t s p).claim_kept (own t s) (λ z. z)
  step_keeps_claim (holding p) = rw (step_5_kept t s p)

-- ---- what is still linked still stands
still_stands : {N S : ℕ} {t u : Tables} → Good N S u → (s : ℕ) → Linked (phase u s) → own u s ≡ own t s
    → claim_of u (own t s) ≡ claim_of t (own t s) → StillStands s t u
still_stands {t = t} {u} g s l e c =
    let w = g.inv.linked s l in
    record {
      same_node = e;
      same_claim = ap (claim_of u) e ∙ c;
      linked_in = linked_in l;
      stands = rw (← e) (is_listed g w.on_list, ne_eqb (mark u (own u s)) 1 w.unmarked);
    }

pub stands_as_it_is : {N S : ℕ} {t : Tables} → Good N S t → (s : ℕ) → Linked (phase t s) → StillStands s t t
stands_as_it_is g s l = still_stands g s l refl refl

module _ {N S : ℕ} {t : Tables} (g : Good N S t) where
  -- ---- a call of the seat itself
  kept_by_reserve : (s : ℕ) (c : Claim) {d : Done Answer} → Linked (phase t s) → Reserving t s c d → StillStands s t d.after
  kept_by_reserve s c l (reserve_refused k x) = stands_as_it_is g s l
  kept_by_reserve s c l (reserve_accepted e h p k i z w) = absurd (linked_busy l z)

  kept_by_enter : (s : ℕ) {d : Done Answer} → Linked (phase t s) → Entering t s d → StillStands s t d.after
  kept_by_enter s l (enter_refused k x) = stands_as_it_is g s l
  kept_by_enter s l (enter_accepted e h p) = let z = linked_in l in absurd (omega arith)

  kept_by_release : (s : ℕ) {d : Done Answer} → Linked (phase t s) → Releasing t s d → release t s ≡ d → StillStands s t d.after ⊎ GivesUp s t (release_call s)
  kept_by_release s l (release_refused k x) q = inl (stands_as_it_is g s l)
  kept_by_release s l (release_accepted e h p) q = inr (released (ap (λ (d : Done Answer). d.answer) q))

  kept_by_step : (s : ℕ) → Linked (phase t s) → StillStands s t (step t s).after ⊎ GivesUp s t (step_call s)
  unfolding call
  kept_by_step s l = elim (retained_step g s l (stepped t s)) [
    | still_linked m e ↦ inl (still_stands (call_keeps g (step_call s)) s m e (step_keeps_claim g s l l))
    | told_back e ↦ inr (withdrawn e)
  ]

  kept_by_own : (c : Call) → Linked (phase t (seat_of c)) → StillStands (seat_of c) t (call t c).after ⊎ GivesUp (seat_of c) t c
  unfolding call
  kept_by_own (reserve_call s c) l = inl (kept_by_reserve s c l (reserving t s c))
  kept_by_own (enter_call s) l = inl (kept_by_enter s l (enters t s))
  kept_by_own (step_call s) l = kept_by_step s l
  kept_by_own (release_call s) l = kept_by_release s l (releasing t s) refl

  -- ---- a call of another seat
  kept_by_other : (c : Call) (s : ℕ) → s ≢ seat_of c → Linked (phase t s) → StillStands s t (call t c).after
  kept_by_other c s d l =
      let kept = other_seats_kept t c in
      let e : own (call t c).after s ≡ own t s = kept.word s own_at d (omega arith) in
      still_stands (call_keeps g c) s (rw (kept.word s phase_at d (omega arith)) l) e (ap (claim_of (call t c).after) (sym e) ∙ others_claims_kept t c s d)

  pub kept_by_call : (c : Call) (s : ℕ) → LinkedIn t s → StillStands s t (call t c).after ⊎ GivesUp s t c
  kept_by_call c s l =
      if_same s (seat_of c)
      (λ e. rw e (kept_by_own c (rw e at (in_linked l.0 l.1))))
      (λ d. inl (kept_by_other c s d (in_linked l.0 l.1)))

-- ---- calls one after the other
stands_on : {s : ℕ} {t u v : Tables} → StillStands s t u → StillStands s u v → StillStands s t v
stands_on a b = record {
  same_node = b.same_node ∙ a.same_node;
  same_claim = b.same_claim ∙ a.same_claim;
  linked_in = b.linked_in;
  stands = rw (← a.same_node) b.stands;
}

kept_by_calls : {N S : ℕ} {t : Tables} → Good N S t → (s : ℕ) → LinkedIn t s → (calls : List Call) → StillStands s t (after_all t calls) ⊎ GivenUp s t calls
unfolding after_all
kept_by_calls g s l [] = inl (stands_as_it_is g s (in_linked l.0 l.1))
kept_by_calls {N = N} {S = S} {t = t} g s l (c ∷ calls) = elim (kept_by_call g c s l) [
  | inr x ↦ inr (now x)
  | inl a ↦ elim (kept_by_calls {t = (call t c).after} (call_keeps g c) s a.linked_in calls) [ inl b ↦ inl (stands_on a b) | inr x ↦ inr (later x) ]
]

pub kept_by_requests : {N S : ℕ} {t : Tables} → Good N S t → (s : ℕ) → LinkedIn t s → (requests : List Request)
    → StillStands s t (after_requests t requests) ⊎ GivenUp s t (calls_made t requests)
kept_by_requests {t = t} g s l requests = rw (requests_are_calls t requests) (kept_by_calls g s l (calls_made t requests))

-- ---- of a node: it stands until the seat that has it gives it up
pub stands_until : {N S : ℕ} {t : Tables} → Good N S t → (c : Call) (a : ℕ) → Stands t a
    → Stands (call t c).after a ⊎ ((s : ℕ) × (own t s ≡ a) × GivesUp s t c)
stands_until {t = t} g c a w =
    let o = g.inv.owner (on_list t a w.0) (eqb-false (mark t a) 1 w.1) in
    elim (kept_by_call g c o.seat (linked_in o.linked)) [
      | inl k ↦ inl (rw o.owns at k.stands)
      | inr x ↦ inr (o.seat, o.owns, x)
    ]
