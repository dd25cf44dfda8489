-- Every rule of a step that fetches nothing, and release, leave good tables good: by clauses on why the step did what it did.
use Prim.Native.Nat.{ℕ, ◌<◌}
use mathlib.Core.Path.{◌≡◌, refl, sym, ◌∙◌, ap}
use mathlib.Core.Logic.{◌≢◌, ◌⊎◌, inl, inr}
use native.Mathlib.Omega.{arith}
use Rattle.rules.specs.Tables.{Tables, mark_at, kind_at, kind, mark, link, next, head, phase, own, prev, cur, set_link, set_phase, set_cur, seat_word, phase_at, prev_at, cur_at}
use Rattle.rules.specs.Comparison.{claim_of}
use Rattle.rules.specs.Steps.{link_in, pass, kind_of, hold, withdraw, leave, entering}
use Rattle.rules.proofs.Ground.Deciding.{if_same}
use Rattle.rules.proofs.Laws.Words.{link_put_same, link_put_other, node_put_link}
use Rattle.rules.proofs.Laws.Compared.{Precedes}
use Rattle.rules.proofs.Invariant.View.{nodes_of, seats_of, validating, holding}
use Rattle.rules.proofs.Invariant.Clauses.{Invariant}
use Rattle.rules.proofs.Invariant.SeatMoves.{Moved}
use Rattle.rules.proofs.Invariant.Known.{known_prev, own_proper}
use Rattle.rules.proofs.Invariant.SeatRules.{pass_keeps, skip_keeps, restart_keeps, enter_keeps, reread_keeps, wake_keeps, wait_keeps, pass_reader_keeps, pass_writer_keeps, skip_validating_keeps, reader_wakes_keeps, reader_waits_keeps, hold_reader_keeps, hold_writer_keeps}
use Rattle.rules.proofs.Invariant.Insert.{reader, writer, holder}
use Rattle.rules.proofs.Invariant.Leave as leaving
use Rattle.rules.proofs.Rules.Effects.{Room, stored}
use Rattle.rules.proofs.Rules.RuleEffects.{phase_stored, cur_stored, place_stored, pass_stored, start_stored, hold_stored, withdraw_stored, leave_stored, enter_stored}
use Rattle.rules.proofs.Rules.Reasons.{Joined, Unlinking, takes_out, goes_past, Starting, as_reader, as_writer, on_sheet, Inserting, links_in, restarts, rereads, Walking, inserts, unlinks, passes, waits, Waking, wakes, stays, ReaderValidating, reader_holds, reader_unlinks, reader_passes, reader_waits, WriterValidating, writer_holds, writer_unlinks, writer_passes, withdraws, Validating, validates_reader, validates_writer}
use Rattle.rules.proofs.Keeping.Aside.{SeatAside, busy, busy_ordinary, busy_still, all_zero, node_room, seat_room, ordinary_in_3, ordinary_in_4}
use Rattle.rules.proofs.Keeping.Good.{Good, counts_on, moves, passes_over, prev_in, new_own, link_in_words, links_in_good, leaves_good}

-- the seat's cur goes on to a marked cur's next
skip_good : {N S : ℕ} {t : Tables} → Good N S t → (s : ℕ) → s < S → (phase t s ≡ 1) ⊎ (phase t s ≡ 3) → cur t s ≢ 0 → mark t (cur t s) ≡ 1
    → Good N S (set_cur t s (next t (cur t s)))
skip_good {t = t} g s s_in (inl e) c m =
    moves g (cur_stored t s (seat_room g.aside s s_in) (next t (cur t s))) (busy_still (g.aside.seat s) refl (omega arith)) (λ w. skip_keeps g.inv (rw e at w) e (omega arith))
skip_good {t = t} g s s_in (inr e) c m =
    moves g (cur_stored t s (seat_room g.aside s s_in) (next t (cur t s))) (busy_still (g.aside.seat s) refl (omega arith)) (λ w. skip_validating_keeps g.inv (rw e at w) e (omega arith) m)

module _ {N S : ℕ} {t : Tables} (g : Good N S t) (s : ℕ) (s_in : s < S) where
  abbrev r : Room t s
  r = seat_room g.aside s s_in

  -- ---- the moves that change no node
  pass_good : phase t s ≢ 0 → (Moved (seats_of t) (seats_of (pass t s)) s (phase t s) (cur t s) (next t (cur t s)) → Invariant N (nodes_of t) (seats_of (pass t s)))
      → Good N S (pass t s)
  unfolding pass
  pass_good b f = moves g (pass_stored t s r) (busy_still (g.aside.seat s) refl b) f

  phase_good : (P : ℕ) → SeatAside t.sheet (stored (seat_word t.sheet t.seats s) phase_at P) → (Moved (seats_of t) (seats_of (set_phase t s P)) s P (prev t s) (cur t s) → Invariant N (nodes_of t) (seats_of (set_phase t s P)))
      → Good N S (set_phase t s P)
  phase_good P k f = moves g (phase_stored t s r P) k f

  -- a seat that holds is in a phase of both profiles
  holds_busy : (words : ℕ → ℕ) → SeatAside t.sheet (stored (stored (stored words phase_at 5) prev_at 0) cur_at 0)
  holds_busy words = busy (omega arith) (omega arith) (omega arith) (omega arith)

  hold_good : (Moved (seats_of t) (seats_of (hold t s)) s 5 0 0 → Invariant N (nodes_of t) (seats_of (hold t s))) → Good N S (hold t s)
  unfolding hold
  hold_good f = counts_on (moves g (hold_stored t s r) (holds_busy (seat_word t.sheet t.seats s)) f) (kind_of t s) _

  own_writes : phase t s ≢ 0 → kind t (own t s) ≢ 1 → kind t (own t s) ≡ 2
  own_writes b k = elim (own_proper g.inv s b).reads_or_writes [ inl q ↦ absurd (k q) | inr q ↦ q ]

  -- ---- unlink and insert
  unlink_good : {u : Tables} → (phase t s ≡ 1) ⊎ (phase t s ≡ 3) → cur t s ≢ 0 → mark t (cur t s) ≡ 1 → Unlinking t s u → Good N S u
  unlink_good ph c m (goes_past e) = skip_good g s s_in ph c m
  unlink_good ph c m (takes_out j) =
      let p = prev t s in
      let v = next t (cur t s) in
      let g' = passes_over g p (cur t s) (prev_in g s) (known_prev s) c m j.to_cur in
      let same : link (set_link t p v) (cur t s) ≡ v =
      if_same (cur t s) p
      (λ e. ap (link (set_link t p v)) e ∙ link_put_same t.sheet t.nodes p v (node_room g.aside p (prev_in g s)))
      (λ d. link_put_other t.sheet t.nodes p (cur t s) v (λ e. d (sym e))) in
      rw same at (skip_good g' s s_in ph c (node_put_link t.sheet t.nodes p (cur t s) mark_at v (omega arith) (omega arith) ∙ m))

  start_good : {u : Tables} → phase t s ≡ 1 → Joined t s → (cur t s ≡ 0) ⊎ Precedes (claim_of t (own t s)) (claim_of t (cur t s))
      → Starting (link_in t s) s u → Good N S u
  unfolding link_in hold
  start_good e j f (as_reader n k) =
      links_in_good g s e j f (start_stored t s r 3 (own t s) (next (link_in t s) (own t s))) refl (busy_ordinary n (omega arith))
      (reader refl (sym (link_in_words t s (own t s) kind_at (omega arith) (omega arith)) ∙ k) refl (new_own g s e j f ∙ sym j.to_cur))
  start_good e j f (as_writer n k) =
      links_in_good g s e j f (start_stored t s r 3 0 (head (link_in t s))) refl (busy_ordinary n (omega arith))
      (writer refl (own_writes (omega arith) (λ q. k (link_in_words t s (own t s) kind_at (omega arith) (omega arith) ∙ q))) refl refl)
  start_good e j f (on_sheet q) =
      counts_on (links_in_good g s e j f (start_stored t s r 5 0 0) refl (holds_busy (seat_word t.sheet t.seats s)) (holder refl (g.aside.kinds q) refl refl)) (kind_of (link_in t s) s) _

  insert_good : {u : Tables} → phase t s ≡ 1 → (cur t s ≡ 0) ⊎ Precedes (claim_of t (own t s)) (claim_of t (cur t s)) → Inserting t s u → Good N S u
  insert_good e f (links_in j st) = start_good e j f st
  insert_good e f (restarts j m) =
      moves g (place_stored t s r 0 (head t)) (busy_still (g.aside.seat s) refl (omega arith)) (λ w. restart_keeps g.inv (rw e at w) e)
  insert_good e f (rereads j m) =
      moves g (cur_stored t s r (link t (prev t s))) (busy_still (g.aside.seat s) refl (omega arith)) (λ w. reread_keeps g.inv (rw e at w) e)

  -- ---- the phases
  pub walking_keeps : {u : Tables} → phase t s ≡ 1 → Walking t s u → Good N S u
  walking_keeps e (inserts f i) = insert_good e f i
  walking_keeps e (unlinks c m i) = unlink_good (inl e) c m i
  walking_keeps e (passes c m f) = pass_good (omega arith) (λ w. pass_keeps g.inv (rw e at w) e (omega arith) f)
  walking_keeps e (waits c m f f') = phase_good 2 (busy (omega arith) (omega arith) (omega arith) (omega arith)) (λ w. wait_keeps g.inv w e (omega arith) f f')

  pub waiting_keeps : {u : Tables} → phase t s ≡ 2 → Waking t s 1 u → Good N S u
  waiting_keeps e (wakes m) = phase_good 1 (busy (omega arith) (omega arith) (omega arith) (omega arith)) (λ w. wake_keeps g.inv w e)
  waiting_keeps e (stays m) = g

  pub reader_waiting_keeps : {u : Tables} → phase t s ≡ 4 → Waking t s 3 u → Good N S u
  reader_waiting_keeps e (wakes m) = phase_good 3 (busy_ordinary (ordinary_in_4 g.aside s e) (omega arith)) (λ w. reader_wakes_keeps g.inv w e)
  reader_waiting_keeps e (stays m) = g

  reader_validating_keeps : {u : Tables} → phase t s ≡ 3 → kind t (own t s) ≡ 1 → ReaderValidating t s u → Good N S u
  reader_validating_keeps e k (reader_holds f) = hold_good (λ w. hold_reader_keeps g.inv w e k f)
  reader_validating_keeps e k (reader_unlinks c m i) = unlink_good (inr e) c m i
  reader_validating_keeps e k (reader_passes c m f) = pass_good (omega arith) (λ w. pass_reader_keeps g.inv (rw e at w) e (omega arith) k f)
  reader_validating_keeps e k (reader_waits c m f h) = phase_good 4 (busy_ordinary (ordinary_in_3 g.aside s e) (omega arith)) (λ w. reader_waits_keeps g.inv w e (omega arith) k f h)

  withdraw_good : phase t s ≡ 3 → Good N S (withdraw t s)
  unfolding withdraw
  withdraw_good e = leaves_good g s (validating e) (withdraw_stored t s r) (busy_ordinary (ordinary_in_3 g.aside s e) (omega arith)) refl refl (leaving.withdraws refl refl)

  writer_validating_keeps : {u : Tables} → phase t s ≡ 3 → kind t (own t s) ≢ 1 → WriterValidating t s u → Good N S u
  writer_validating_keeps e k (writer_holds f) = hold_good (λ w. hold_writer_keeps g.inv w e (own_writes (omega arith) k) f)
  writer_validating_keeps e k (writer_unlinks d c m i) = unlink_good (inr e) c m i
  writer_validating_keeps e k (writer_passes d c m f) =
      pass_good (omega arith) (λ w. pass_writer_keeps g.inv (rw e at w) e (omega arith) (own_writes (omega arith) k) f)
  writer_validating_keeps e k (withdraws d f) = withdraw_good e

  pub validating_keeps : {u : Tables} → phase t s ≡ 3 → Validating t s u → Good N S u
  validating_keeps e (validates_reader k v) = reader_validating_keeps e k v
  validating_keeps e (validates_writer k v) = writer_validating_keeps e k v

  pub entering_keeps : phase t s ≡ 7 → Good N S (entering t s)
  unfolding entering
  entering_keeps e = moves g (enter_stored t s r) (busy (omega arith) (omega arith) (omega arith) (omega arith)) (λ w. enter_keeps g.inv w e)

  -- ---- release
  pub leave_keeps : phase t s ≡ 5 → Good N S (leave t s)
  unfolding leave
  leave_keeps e = counts_on (leaves_good g s (holding e) (leave_stored t s r) all_zero refl refl (leaving.releases refl refl)) (kind_of t s) _
