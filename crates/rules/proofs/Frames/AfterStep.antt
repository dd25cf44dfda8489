-- Where a step leaves its seat: with a claim, if it had one, waiting only where it stood and at a node that is not marked, and holding only as it was or
-- by the rule of hold. Of any tables that have room for the seat.
use Prim.Native.Nat.{ℕ}
use mathlib.Core.Path.{◌≡◌, refl, sym, ◌∙◌}
use mathlib.Core.List.{List}
use mathlib.Core.Logic.{◌≢◌, ◌⊎◌, inl, inr}
use native.Mathlib.Omega.{arith}
use Rattle.rules.specs.Notation.{◌is◌}
use Rattle.rules.specs.Tables.{Tables, phase_at, own_at, cur_at, mark, link, next, head, phase, own, prev, cur, set_phase}
use Rattle.rules.specs.Comparison.{Claim}
use Rattle.rules.specs.Fetch.{Fetched, write_claim, take_node, taken_out, reserve_for}
use Rattle.rules.specs.Answers.{Answer, Done}
use Rattle.rules.specs.Steps.{link_in, hold, refetched, pass, withdraw, entering}
use Rattle.rules.specs.Calls.{step}
use Rattle.rules.proofs.Ground.Logic.{branch}
use Rattle.rules.proofs.Rules.Effects.{Room, Seated}
use Rattle.rules.proofs.Rules.RuleEffects.{phase_stored, cur_stored, place_stored, pass_stored, start_stored, hold_stored, withdraw_stored, enter_stored, reserve_stored}
use Rattle.rules.proofs.Rules.Reasons.{Unlinking, takes_out, goes_past, as_reader, as_writer, on_sheet, links_in, restarts, rereads, Walking, inserts, unlinks, passes, waits, Waking, wakes, stays, reader_holds, reader_unlinks, reader_passes, reader_waits, writer_holds, writer_unlinks, writer_passes, withdraws, Validating, validates_reader, validates_writer, Fetching, found, found_then, none, Stepping, in_1, in_2, in_3, in_4, in_6, in_7, at_rest}
use Rattle.rules.proofs.Rules.Accepting.{Stepped, step_refused, step_accepted, stepped}
use Rattle.rules.proofs.Frames.SeatFrames.{sound_room}
use Rattle.rules.proofs.Laws.NodesAlone.{taken_out_profile, taken_out_seats}

-- u has the nodes of t, and seat s its claim and its place
pub record Stayed (t u : Tables) (s : ℕ) : Type 0 where
  pub same_profile : u.sheet ≡ t.sheet
  pub same_nodes : u.nodes ≡ t.nodes
  pub same_own : own u s ≡ own t s
  pub same_cur : cur u s ≡ cur t s

-- u is t with seat s holding: as it was found, or with own linked in first
pub data ComesToHold (t : Tables) (s : ℕ) (u : Tables) : Type 0 where
  as_found : u ≡ hold t s → ComesToHold t s u
  linked_once : u ≡ hold (link_in t s) s → ComesToHold t s u

-- from t to u by a step of seat s
pub record Left (t u : Tables) (s : ℕ) : Type 0 where
  pub busy : phase u s ≢ 0
  pub unmarked : (phase u s ≡ 2) ⊎ (phase u s ≡ 4) → mark u (cur u s) ≢ 1
  pub stayed : (phase u s ≡ 2) ⊎ (phase u s ≡ 4) → Stayed t u s
  pub holding : phase u s ≡ 5 → (u ≡ t) ⊎ ComesToHold t s u

not_waiting : {t u : Tables} {s : ℕ} → phase u s ≢ 0 → phase u s ≢ 2 → phase u s ≢ 4 → (phase u s ≡ 5 → (u ≡ t) ⊎ ComesToHold t s u) → Left t u s
not_waiting {t} {u} {s} b d₂ d₄ h = record { busy = b; unmarked = λ p. absurd (neither p); stayed = λ p. absurd (neither p); holding = h }
  where
    neither : (phase u s ≡ 2) ⊎ (phase u s ≡ 4) → ⊥
    neither (inl e) = d₂ e
    neither (inr e) = d₄ e

moved : {before : List ℕ} {t u : Tables} {s : ℕ} {words : ℕ → ℕ} → Seated u.sheet before u.seats s words
    → words phase_at ≢ 0 → words phase_at ≢ 2 → words phase_at ≢ 4 → words phase_at ≢ 5 → Left t u s
moved w b d₂ d₄ d₅ = let e = w.at_s phase_at (omega arith) in not_waiting (rw e b) (rw e d₂) (rw e d₄) (λ p. absurd (d₅ (sym e ∙ p)))

module _ (t : Tables) (s : ℕ) (r : Room t s) where
  turned : (P : ℕ) → P ≢ 0 → P ≢ 5 → mark t (cur t s) ≢ 1 → Left t (set_phase t s P) s
  turned P z d₅ m =
      let w = phase_stored t s r P in
      let e = w.at_s phase_at (omega arith) in
      record {
        busy = rw e z;
        unmarked = λ p. rw (w.at_s cur_at (omega arith)) m;
        stayed = λ p. record { same_profile = refl; same_nodes = refl; same_own = w.at_s own_at (omega arith); same_cur = w.at_s cur_at (omega arith) };
        holding = λ p. absurd (d₅ (sym e ∙ p));
      }

  -- in phase 1 or 3 the seat moves on without another phase
  module _ (p : (phase t s ≡ 1) ⊎ (phase t s ≡ 3)) where
    goes_on : {u : Tables} {words : ℕ → ℕ} → Seated u.sheet t.seats u.seats s words → words phase_at ≡ phase t s → Left t u s
    goes_on w e = elim p [ inl q ↦ moved w (omega arith) (omega arith) (omega arith) (omega arith) | inr q ↦ moved w (omega arith) (omega arith) (omega arith) (omega arith) ]

    unlinking_leaves : {u : Tables} → Unlinking t s u → Left t u s
    unlinking_leaves (takes_out j) = goes_on (cur_stored t s r (next t (cur t s))) refl
    unlinking_leaves (goes_past e) = goes_on (cur_stored t s r (next t (cur t s))) refl

  linked_leaves : Left t (hold (link_in t s) s) s
  unfolding link_in hold
  linked_leaves =
      let e = (start_stored t s r 5 0 0).at_s phase_at (omega arith) in
      not_waiting (rw e (omega arith)) (rw e (omega arith)) (rw e (omega arith)) (λ p. inr (linked_once refl))

  walking_leaves : {u : Tables} → phase t s ≡ 1 → Walking t s u → Left t u s
  unfolding link_in pass
  walking_leaves p (inserts f (links_in j (as_reader n k))) = moved (start_stored t s r 3 (own t s) (next (link_in t s) (own t s))) (omega arith) (omega arith) (omega arith) (omega arith)
  walking_leaves p (inserts f (links_in j (as_writer n k))) = moved (start_stored t s r 3 0 (head (link_in t s))) (omega arith) (omega arith) (omega arith) (omega arith)
  walking_leaves p (inserts f (links_in j (on_sheet q))) = linked_leaves
  walking_leaves p (inserts f (restarts j m)) = goes_on (inl p) (place_stored t s r 0 (head t)) refl
  walking_leaves p (inserts f (rereads j m)) = goes_on (inl p) (cur_stored t s r (link t (prev t s))) refl
  walking_leaves p (unlinks c m w) = unlinking_leaves (inl p) w
  walking_leaves p (passes c m f) = goes_on (inl p) (pass_stored t s r) refl
  walking_leaves p (waits c m f f') = turned 2 (omega arith) (omega arith) m

  waking_leaves : {P : ℕ} {u : Tables} → phase t s ≢ 0 → P ≢ 0 → P ≢ 2 → P ≢ 4 → P ≢ 5 → Waking t s P u → Left t u s
  waking_leaves {P} b z d₂ d₄ d₅ (wakes m) = moved (phase_stored t s r P) z d₂ d₄ d₅
  waking_leaves b z d₂ d₄ d₅ (stays m) =
      record { busy = b; unmarked = λ p. m; stayed = λ p. record { same_profile = refl; same_nodes = refl; same_own = refl; same_cur = refl }; holding = λ p. inl refl }

  holding_leaves : Left t (hold t s) s
  unfolding hold
  holding_leaves =
      let e = (hold_stored t s r).at_s phase_at (omega arith) in
      not_waiting (rw e (omega arith)) (rw e (omega arith)) (rw e (omega arith)) (λ p. inr (as_found refl))

  validating_leaves : {u : Tables} → phase t s ≡ 3 → Validating t s u → Left t u s
  unfolding pass withdraw
  validating_leaves p (validates_reader k (reader_holds f)) = holding_leaves
  validating_leaves p (validates_reader k (reader_unlinks c m w)) = unlinking_leaves (inr p) w
  validating_leaves p (validates_reader k (reader_passes c m f)) = goes_on (inr p) (pass_stored t s r) refl
  validating_leaves p (validates_reader k (reader_waits c m f h)) = turned 4 (omega arith) (omega arith) m
  validating_leaves p (validates_writer k (writer_holds f)) = holding_leaves
  validating_leaves p (validates_writer k (writer_unlinks d c m w)) = unlinking_leaves (inr p) w
  validating_leaves p (validates_writer k (writer_passes d c m f)) = goes_on (inr p) (pass_stored t s r) refl
  validating_leaves p (validates_writer k (withdraws d f)) = moved (withdraw_stored t s r) (omega arith) (omega arith) (omega arith) (omega arith)

  taking_leaves : {from : Tables} (a : ℕ) (c : Claim) → Left from (take_node t s a c) s
  unfolding take_node write_claim reserve_for
  taking_leaves a c = moved (reserve_stored (write_claim t a c) s r a) (omega arith) (omega arith) (omega arith) (omega arith)

fetching_leaves : {t : Tables} {s : ℕ} {c : Claim} {f : Fetched} → Room t s → phase t s ≡ 6 → Fetching t s c f → Left t f.after s
fetching_leaves {t} {s} {c} r p (found a e z) = taking_leaves t s r a c
fetching_leaves {t} {s} {c} r p (found_then a e e' z) = taking_leaves (taken_out t) s (rw (taken_out_profile t, taken_out_seats t) r) a c
fetching_leaves r p (none e e') = not_waiting (omega arith) (omega arith) (omega arith) (λ q. inl refl)

module _ (t : Tables) (s : ℕ) where
  refetched_leaves : (f : Fetched) → phase t s ≡ 6 → Left t f.after s → Left t (refetched t s f).after s
  unfolding refetched
  refetched_leaves f p w = branch (λ (d : Done Answer). Left t d.after s) (f.node is 0)
      (λ e. not_waiting (omega arith) (omega arith) (omega arith) (λ q. inl refl)) (λ e. w)

  pub stepping_leaves : {d : Done Answer} → Room t s → phase t s ≢ 0 → Stepping t s d → Left t d.after s
  unfolding entering
  stepping_leaves r b (in_1 e w) = walking_leaves t s r e w
  stepping_leaves r b (in_2 e w) = waking_leaves t s r b (omega arith) (omega arith) (omega arith) (omega arith) w
  stepping_leaves r b (in_3 e w) = validating_leaves t s r e w
  stepping_leaves r b (in_4 e w) = waking_leaves t s r b (omega arith) (omega arith) (omega arith) (omega arith) w
  stepping_leaves r b (in_6 {f = f} e w) = refetched_leaves f e (fetching_leaves r e w)
  stepping_leaves r b (in_7 e) = moved (enter_stored t s r) (omega arith) (omega arith) (omega arith) (omega arith)
  stepping_leaves r b (at_rest d₁ d₂ d₃ d₄ d₆ d₇) = not_waiting b d₂ d₄ (λ p. inl refl)

  stepped_busy : {d : Done Answer} → phase t s ≢ 0 → Stepped t s d → phase d.after s ≢ 0
  stepped_busy b (step_refused k r) = b
  stepped_busy b (step_accepted e h b' w) = (stepping_leaves (sound_room t s e h) b w).busy

  pub step_stays_busy : phase t s ≢ 0 → phase (step t s).after s ≢ 0
  step_stays_busy b = stepped_busy b (stepped t s)
