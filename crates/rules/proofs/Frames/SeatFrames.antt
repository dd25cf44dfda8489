-- A call changes the words of its own seat and of no other. Over any tables: a call on damaged ones, or of a seat that is not there,
-- changes nothing.
use Prim.Native.Nat.{ℕ, ◌<◌}
use mathlib.Core.Path.{◌≡◌, refl, ap, ◌∙◌}
use mathlib.Core.Bool.{true}
use mathlib.Core.List.{List}
use native.Mathlib.Omega.{arith}
use lib.ListN.{length}
use Rattle.rules.specs.Notation.{◌is◌}
use Rattle.rules.specs.Tables.{Tables, tables, seat_count, link, next, head, own, prev, cur}
use Rattle.rules.specs.Comparison.{Claim}
use Rattle.rules.specs.Shape.{sound}
use Rattle.rules.specs.Fetch.{Fetched, write_claim, take_node, taken_out, reserve_for}
use Rattle.rules.specs.Answers.{Answer, Done}
use Rattle.rules.specs.Steps.{refetched, link_in, entering, hold, leave, pass, withdraw}
use Rattle.rules.specs.Calls.{reserved}
use Rattle.rules.specs.Play.{Call, reserve_call, enter_call, step_call, release_call, call, seat_of}
use Rattle.rules.specs.Apart.{OtherSeatsKept}
use Rattle.rules.proofs.Ground.Logic.{branch}
use Rattle.rules.proofs.Laws.Words.{seat_within}
use Rattle.rules.proofs.Laws.Shape.{is_sound}
use Rattle.rules.proofs.Rules.Effects.{Room, Seated}
use Rattle.rules.proofs.Rules.RuleEffects.{phase_stored, cur_stored, place_stored, pass_stored, start_stored, hold_stored, withdraw_stored, leave_stored, reserve_stored, enter_stored}
use Rattle.rules.proofs.Rules.Reasons.{Unlinking, takes_out, goes_past, Starting, as_reader, as_writer, on_sheet, Inserting, links_in, restarts, rereads, Walking, inserts, unlinks, passes, waits, Waking, wakes, stays, ReaderValidating, reader_holds, reader_unlinks, reader_passes, reader_waits, WriterValidating, writer_holds, writer_unlinks, writer_passes, withdraws, Validating, validates_reader, validates_writer, Fetching, found, found_then, none, Stepping, in_1, in_2, in_3, in_4, in_6, in_7, at_rest}
use Rattle.rules.proofs.Rules.Accepting.{Reserving, reserve_refused, reserve_accepted, reserving, Entering, enter_refused, enter_accepted, enters, Stepped, step_refused, step_accepted, stepped, Releasing, release_refused, release_accepted, releasing}
use Rattle.rules.proofs.Laws.NodesAlone.{taken_out_profile, taken_out_seats}

pub sound_room : (t : Tables) (s : ℕ) → sound t ≡ true → s < seat_count t → Room t s
sound_room t s e h = let l = (is_sound t e).seats_length in let b = seat_within t.sheet s (seat_count t) h in omega arith

same : (s : ℕ) (t : Tables) → OtherSeatsKept s t t
same s t = record { same_profile = refl; word = λ r f d h. refl; same_length = refl }

others : {t : Tables} {nodes seats : List ℕ} {s : ℕ} {words : ℕ → ℕ} → Seated t.sheet t.seats seats s words → OtherSeatsKept s t (tables t.sheet nodes seats)
others w = record { same_profile = refl; word = w.others; same_length = w.long }

module _ (t : Tables) (s : ℕ) (r : Room t s) where
  unlinking : {u : Tables} → Unlinking t s u → OtherSeatsKept s t u
  unlinking (takes_out j) = others (cur_stored t s r (next t (cur t s)))
  unlinking (goes_past e) = others (cur_stored t s r (next t (cur t s)))

  starting : {u : Tables} → Starting (link_in t s) s u → OtherSeatsKept s t u
  unfolding link_in hold
  starting (as_reader n k) = others (start_stored t s r 3 (own t s) (next (link_in t s) (own t s)))
  starting (as_writer n k) = others (start_stored t s r 3 0 (head (link_in t s)))
  starting (on_sheet q) = others (start_stored t s r 5 0 0)

  inserting : {u : Tables} → Inserting t s u → OtherSeatsKept s t u
  inserting (links_in j w) = starting w
  inserting (restarts j m) = others (place_stored t s r 0 (head t))
  inserting (rereads j m) = others (cur_stored t s r (link t (prev t s)))

  walking : {u : Tables} → Walking t s u → OtherSeatsKept s t u
  unfolding pass
  walking (inserts f w) = inserting w
  walking (unlinks c m w) = unlinking w
  walking (passes c m f) = others (pass_stored t s r)
  walking (waits c m f f') = others (phase_stored t s r 2)

  waking : {P : ℕ} {u : Tables} → Waking t s P u → OtherSeatsKept s t u
  waking {P} (wakes m) = others (phase_stored t s r P)
  waking (stays m) = same s t

  validating_reader : {u : Tables} → ReaderValidating t s u → OtherSeatsKept s t u
  unfolding hold pass
  validating_reader (reader_holds f) = others (hold_stored t s r)
  validating_reader (reader_unlinks c m w) = unlinking w
  validating_reader (reader_passes c m f) = others (pass_stored t s r)
  validating_reader (reader_waits c m f h) = others (phase_stored t s r 4)

  validating_writer : {u : Tables} → WriterValidating t s u → OtherSeatsKept s t u
  unfolding hold pass withdraw
  validating_writer (writer_holds f) = others (hold_stored t s r)
  validating_writer (writer_unlinks d c m w) = unlinking w
  validating_writer (writer_passes d c m f) = others (pass_stored t s r)
  validating_writer (withdraws d f) = others (withdraw_stored t s r)

  validating : {u : Tables} → Validating t s u → OtherSeatsKept s t u
  validating (validates_reader k w) = validating_reader w
  validating (validates_writer k w) = validating_writer w

  taking : (a : ℕ) (c : Claim) → OtherSeatsKept s t (take_node t s a c)
  unfolding take_node write_claim reserve_for
  taking a c = others (reserve_stored (write_claim t a c) s r a)

taking_then : (t : Tables) (s : ℕ) → Room t s → (a : ℕ) (c : Claim) → OtherSeatsKept s t (take_node (taken_out t) s a c)
taking_then t s r a c =
    let e = taken_out_seats t in
    let k = taken_out_profile t in
    let w = taking (taken_out t) s (rw (k, e) r) a c in
    record { same_profile = w.same_profile ∙ k; word = λ r f d h. w.word r f d (rw k h) ∙ rw (k, e); same_length = w.same_length ∙ ap length e }

fetching : (t : Tables) (s : ℕ) → Room t s → {c : Claim} {f : Fetched} → Fetching t s c f → OtherSeatsKept s t f.after
fetching t s r {c} (found a e z) = taking t s r a c
fetching t s r {c} (found_then a e e' z) = taking_then t s r a c
fetching t s r (none e e') = same s t

module _ (t : Tables) (s : ℕ) where
  refetching : (f : Fetched) → OtherSeatsKept s t f.after → OtherSeatsKept s t (refetched t s f).after
  unfolding refetched
  refetching f w = branch (λ (d : Done Answer). OtherSeatsKept s t d.after) (f.node is 0) (λ e. same s t) (λ e. w)

  reserved_keeps : (f : Fetched) → OtherSeatsKept s t f.after → OtherSeatsKept s t (reserved t f).after
  unfolding reserved
  reserved_keeps f w = branch (λ (d : Done Answer). OtherSeatsKept s t d.after) (f.node is 0) (λ e. same s t) (λ e. w)

  stepping : {d : Done Answer} → Room t s → Stepping t s d → OtherSeatsKept s t d.after
  unfolding entering
  stepping r (in_1 e w) = walking t s r w
  stepping r (in_2 e w) = waking t s r w
  stepping r (in_3 e w) = validating t s r w
  stepping r (in_4 e w) = waking t s r w
  stepping r (in_6 {f = f} e w) = refetching f (fetching t s r w)
  stepping r (in_7 e) = others (enter_stored t s r)
  stepping r (at_rest a b c d e f) = same s t

  step_others : {d : Done Answer} → Stepped t s d → OtherSeatsKept s t d.after
  step_others (step_refused k r) = same s t
  step_others (step_accepted e h b w) = stepping (sound_room t s e h) w

  reserve_others : {c : Claim} {d : Done Answer} → Reserving t s c d → OtherSeatsKept s t d.after
  reserve_others (reserve_refused k r) = same s t
  reserve_others (reserve_accepted {f = f} e h p k i z w) = reserved_keeps f (fetching t s (sound_room t s e h) w)

  enter_others : {d : Done Answer} → Entering t s d → OtherSeatsKept s t d.after
  unfolding entering
  enter_others (enter_refused k r) = same s t
  enter_others (enter_accepted e h p) = others (enter_stored t s (sound_room t s e h))

  release_others : {d : Done Answer} → Releasing t s d → OtherSeatsKept s t d.after
  unfolding leave
  release_others (release_refused k r) = same s t
  release_others (release_accepted e h p) = others (leave_stored t s (sound_room t s e h))

pub other_seats_kept : (t : Tables) (c : Call) → OtherSeatsKept (seat_of c) t (call t c).after
unfolding call
other_seats_kept t (reserve_call s c) = reserve_others t s (reserving t s c)
other_seats_kept t (enter_call s) = enter_others t s (enters t s)
other_seats_kept t (step_call s) = step_others t s (stepped t s)
other_seats_kept t (release_call s) = release_others t s (releasing t s)
