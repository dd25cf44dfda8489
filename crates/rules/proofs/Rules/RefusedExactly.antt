-- The calls refuse exactly as the tables of specs/Refusing.antt say, and what is refused changes nothing. Of any tables and numbers.
use Rattle.std.specs.Prelude.{if◌then◌else◌}
use Prim.Native.Nat.{ℕ, ◌/◌, ◌≤◌, ◌<◌}
use mathlib.Core.Path.{◌≡◌, refl, sym, ap, subst, ◌∙◌}
use mathlib.Core.Bool.{Bool, true, false, not}
use mathlib.Core.List.{List}
use mathlib.Core.Logic.{◌≢◌}
use native.Mathlib.Omega.{arith}
use lib.ListN.{length}
use borrow.Author.Tests.{ltb-true, lt-ltb, le-ltb, le-leb, lt-leb, eqb-true, eqb-false, eq-eqb, ne_eqb, not-false}
use Rattle.rules.specs.Notation.{◌is◌, ◌<?◌}
use Rattle.rules.specs.Tables.{Tables, node_count, seat_count, title, phase, own, fresh}
use Rattle.rules.specs.Comparison.{Claim, claim_of}
use Rattle.rules.specs.Shape.{lengths_fit, sound, is_kind, may_claim}
use Rattle.rules.specs.Fetch.{Fetched, fetched, fetch, fetch_again}
use Rattle.rules.specs.Answers.{Answer, node, on, refused, Done, done}
use Rattle.rules.specs.Steps.{refetched, entering}
use Rattle.rules.specs.Calls.{reserved, clear, reserve, enter, step, release}
use Rattle.rules.specs.FreeCount.{Counted, free_count}
use Rattle.rules.specs.Board.{Boarded, Shown, shown, holders, board, row_width, board_numbers}
use Rattle.rules.specs.Run.{refusal_of}
use Rattle.rules.specs.Play.{Call, reserve_call, enter_call, step_call, release_call, call, seat_of}
use Rattle.rules.specs.Refusing.{HasSeat, Proper, WritesOnSheet, WithinTitle, NoNodeFree, Refuses, damaged, no_such_seat, no_frames, beyond_title, no_kind, reads_on_sheet, not_idle, idle, not_holding, not_reserved, none_to_reserve, none_again, ClearRefuses, lengths_wrong, title_of_none, DamageRefuses, tables_damaged, BoardRefuses, board_damaged, too_few_rows}
use Rattle.rules.specs.declared.Row.{Row}
use Rattle.rules.proofs.Ground.Logic.{clash, branch, not_true, neither}
use Rattle.rules.proofs.Laws.Answers.{refused_as, answers_no_refusal}
use Rattle.rules.proofs.Rules.Reasons.{Fetching, found, found_then, none, Stepping, in_1, in_2, in_3, in_4, in_6, in_7, at_rest, by_phase_6}
use Rattle.rules.proofs.Rules.Accepting.{Reserving, reserve_refused, reserve_accepted, reserving, Entering, enter_refused, enter_accepted, enters, Stepped, step_refused, step_accepted, stepped, Releasing, release_refused, release_accepted, releasing, step_is}
use Rattle.rules.proofs.Laws.Shape.{claim_may}

-- ---- a refused reserve, enter, step or release is one of the table
same_number : {t : Tables} {c : Call} {j k : ℕ} → Refuses t c j → refused j ≡ refused k → Refuses t c k
same_number {t} {c} r q = subst (Refuses t c) (ap refusal_of q) r

pub not_refused : {A : Type 0} {n k : ℕ} → node n ≡ refused k → A
not_refused q = let z : ◌≡◌ {A = ℕ} 0 1 = cc in absurd (omega arith)

pub on_not_refused : {A : Type 0} {k : ℕ} → on ≡ refused k → A
on_not_refused q = let z : ◌≡◌ {A = ℕ} 0 1 = cc in absurd (omega arith)

module _ (t : Tables) (s k : ℕ) (has : HasSeat t s) where
  reserved_refused : (c : Claim) {f : Fetched} → Proper c → WritesOnSheet t c → WithinTitle t c → phase t s ≡ 0 → Fetching t s c f → (reserved t f).answer ≡ refused k → Refuses t (reserve_call s c) k
  unfolding reserved
  reserved_refused c p y i z (found a e d) q = not_refused (rw (ne_eqb a 0 d) at q)
  reserved_refused c p y i z (found_then a e e' d) q = not_refused (rw (ne_eqb a 0 d) at q)
  reserved_refused c p y i z (none e e') q = same_number (none_to_reserve has p y i z (record { at_first = e; marked_out = e' })) q

  refetched_refused : (c : Claim) {f : Fetched} → phase t s ≡ 6 → Fetching t s c f → (refetched t s f).answer ≡ refused k → Refuses t (step_call s) k
  unfolding refetched
  refetched_refused c z (found a e d) q = absurd (answers_no_refusal _ s k (rw (ne_eqb a 0 d) at q))
  refetched_refused c z (found_then a e e' d) q = absurd (answers_no_refusal _ s k (rw (ne_eqb a 0 d) at q))
  refetched_refused c z (none e e') q = same_number (none_again has z (record { at_first = e; marked_out = e' })) q

  stepping_refused : {d : Done Answer} → Stepping t s d → d.answer ≡ refused k → Refuses t (step_call s) k
  stepping_refused (in_1 {u = u} e w) q = absurd (answers_no_refusal u s k q)
  stepping_refused (in_2 {u = u} e w) q = absurd (answers_no_refusal u s k q)
  stepping_refused (in_3 {u = u} e w) q = absurd (answers_no_refusal u s k q)
  stepping_refused (in_4 {u = u} e w) q = absurd (answers_no_refusal u s k q)
  stepping_refused (in_6 e w) q = refetched_refused (claim_of t (own t s)) e w q
  stepping_refused (in_7 e) q = absurd (answers_no_refusal (entering t s) s k q)
  stepping_refused (at_rest a b c d e f) q = absurd (answers_no_refusal t s k q)

seat_of_law : {t : Tables} {s : ℕ} → sound t ≡ true → s < seat_count t → HasSeat t s
seat_of_law e h = record { is_sound = e; is_seat = h }

module _ (t : Tables) (s k : ℕ) where
  reserve_by_table : (c : Claim) {d : Done Answer} → Reserving t s c d → d.answer ≡ refused k → Refuses t (reserve_call s c) k
  reserve_by_table c (reserve_refused number x) q = same_number x q
  reserve_by_table c (reserve_accepted e h p y i z w) q = reserved_refused t s k (seat_of_law e h) c p y i z w q

  step_by_table : {d : Done Answer} → Stepped t s d → d.answer ≡ refused k → Refuses t (step_call s) k
  step_by_table (step_refused number x) q = same_number x q
  step_by_table (step_accepted e h b w) q = stepping_refused t s k (seat_of_law e h) w q

  enter_by_table : {d : Done Answer} → Entering t s d → d.answer ≡ refused k → Refuses t (enter_call s) k
  enter_by_table (enter_refused number x) q = same_number x q
  enter_by_table (enter_accepted e h p) q = absurd (answers_no_refusal (entering t s) s k q)

  release_by_table : {d : Done Answer} → Releasing t s d → d.answer ≡ refused k → Refuses t (release_call s) k
  release_by_table (release_refused number x) q = same_number x q
  release_by_table (release_accepted e h p) q = let z : ◌≡◌ {A = ℕ} 0 1 = cc in absurd (omega arith)

pub call_by_table : (t : Tables) (c : Call) (k : ℕ) → (call t c).answer ≡ refused k → Refuses t c k
unfolding call
call_by_table t (reserve_call s c) k = reserve_by_table t s k c (reserving t s c)
call_by_table t (enter_call s) k = enter_by_table t s k (enters t s)
call_by_table t (step_call s) k = step_by_table t s k (stepped t s)
call_by_table t (release_call s) k = release_by_table t s k (releasing t s)

-- ---- what the table says is refused, with nothing changed
no_node_found : (t : Tables) (s : ℕ) (c : Claim) → NoNodeFree t s → fetch t s c ≡ fetched 0 t
unfolding fetch fetch_again
no_node_found t s c n = rw (n.at_first, n.marked_out)

no_kind_at_all : (sheet : Bool) (k : ℕ) → k ≢ 1 → k ≢ 2 → may_claim sheet k ≡ false
unfolding may_claim is_kind
no_kind_at_all true k d d' = ne_eqb k 2 d'
no_kind_at_all false k d d' = neither (k is 1) (k is 2) (ne_eqb k 1 d) (ne_eqb k 2 d')

no_reader_there : (sheet : Bool) (k : ℕ) → sheet ≡ true → k ≡ 1 → may_claim sheet k ≡ false
unfolding may_claim
no_reader_there true k q e = rw e
no_reader_there false k q e = absurd (clash false q refl)

damaged_refused : (t : Tables) (c : Call) → sound t ≡ false → call t c ≡ done (refused 1) t
unfolding call reserve enter step release
damaged_refused t (reserve_call s c) e = rw e
damaged_refused t (enter_call s) e = rw e
damaged_refused t (step_call s) e = rw e
damaged_refused t (release_call s) e = rw e

past_refused : (t : Tables) (c : Call) → sound t ≡ true → seat_count t ≤ seat_of c → call t c ≡ done (refused 2) t
unfolding call reserve enter step release
past_refused t (reserve_call s c) e h = rw (e, le-leb (seat_count t) s h)
past_refused t (enter_call s) e h = rw (e, le-leb (seat_count t) s h)
past_refused t (step_call s) e h = rw (e, le-leb (seat_count t) s h)
past_refused t (release_call s) e h = rw (e, le-leb (seat_count t) s h)

pub table_refused : (t : Tables) (c : Call) (k : ℕ) → Refuses t c k → call t c ≡ done (refused k) t
unfolding call reserve enter step release reserved refetched
table_refused t c k (damaged e) = damaged_refused t c e
table_refused t c k (no_such_seat e h) = past_refused t c e h
table_refused t _ k (no_frames {s = s} {c = c} w h) = rw (w.is_sound, lt-leb (seat_count t) s w.is_seat, le-leb c.end c.start h)
table_refused t _ k (beyond_title {s = s} {c = c} w h b) =
    rw (w.is_sound, lt-leb (seat_count t) s w.is_seat, lt-leb c.end c.start h, lt-ltb (title t) c.end b)
table_refused t _ k (no_kind {s = s} {c = c} w h i d d') =
    rw (w.is_sound, lt-leb (seat_count t) s w.is_seat, lt-leb c.end c.start h, le-ltb (title t) c.end i, no_kind_at_all t.sheet c.kind d d')
table_refused t _ k (reads_on_sheet {s = s} {c = c} w h i q e) =
    rw (w.is_sound, lt-leb (seat_count t) s w.is_seat, lt-leb c.end c.start h, le-ltb (title t) c.end i, no_reader_there t.sheet c.kind q e)
table_refused t _ k (not_idle {s = s} {c = c} w p y i d) =
    rw (w.is_sound, lt-leb (seat_count t) s w.is_seat, lt-leb c.end c.start p.some, le-ltb (title t) c.end i, claim_may t.sheet c.kind (p.reads_or_writes, y), ne_eqb (phase t s) 0 d)
table_refused t _ k (idle {s = s} w e) = rw (w.is_sound, lt-leb (seat_count t) s w.is_seat, eq-eqb (phase t s) 0 e)
table_refused t _ k (not_holding {s = s} w d) = rw (w.is_sound, lt-leb (seat_count t) s w.is_seat, ne_eqb (phase t s) 5 d)
table_refused t _ k (not_reserved {s = s} w d) = rw (w.is_sound, lt-leb (seat_count t) s w.is_seat, ne_eqb (phase t s) 7 d)
table_refused t _ k (none_to_reserve {s = s} {c = c} w p y i e n) =
    rw (w.is_sound, lt-leb (seat_count t) s w.is_seat, lt-leb c.end c.start p.some, le-ltb (title t) c.end i, claim_may t.sheet c.kind (p.reads_or_writes, y), eq-eqb (phase t s) 0 e, no_node_found t s c n)
table_refused t _ k (none_again {s = s} w e n) =
    step_is t s w.is_sound w.is_seat (omega arith) ∙ by_phase_6 t s e ∙ rw (no_node_found t s (claim_of t (own t s)) n)

-- so what is refused, with whatever number, keeps the tables
pub refused_keeps : (t : Tables) (c : Call) → refusal_of (call t c).answer ≢ 0 → (call t c).after ≡ t
refused_keeps t c d =
    let k = refusal_of (call t c).answer in
    ap (λ (d : Done Answer). d.after) (table_refused t c k (call_by_table t c k (refused_as (call t c).answer d)))

pub refused_step_keeps : (t : Tables) (s : ℕ) → refusal_of (step t s).answer ≢ 0 → (step t s).after ≡ t
unfolding call
refused_step_keeps t s = refused_keeps t (step_call s)

-- ---- clear, free count and board
pub clear_by_table : (t : Tables) (frames k : ℕ) → (clear t frames).answer ≡ k → k ≢ 0 → ClearRefuses t frames k
unfolding clear
clear_by_table t frames k =
    branch (λ (d : Done ℕ). d.answer ≡ k → k ≢ 0 → ClearRefuses t frames k) (not (lengths_fit t))
    (λ e q z. subst (ClearRefuses t frames) q (lengths_wrong (not_true (lengths_fit t) e)))
    (λ e. branch (λ (d : Done ℕ). d.answer ≡ k → k ≢ 0 → ClearRefuses t frames k) (frames is 0)
    (λ f q z. subst (ClearRefuses t frames) q (title_of_none (not-false (lengths_fit t) e) (eqb-true frames 0 f)))
    (λ f q z. absurd (z (sym q))))

pub clear_refused : (t : Tables) (frames k : ℕ) → ClearRefuses t frames k → clear t frames ≡ done k t
unfolding clear
clear_refused t frames k (lengths_wrong e) = rw e
clear_refused t frames k (title_of_none e z) = rw (e, eq-eqb frames 0 z)

-- what is accepted makes the tables fresh, of a title with some frames
pub record ClearAccepted (t : Tables) (frames : ℕ) (u : Tables) : Type 0 where
  pub lengths : lengths_fit t ≡ true
  pub some_frames : frames ≢ 0
  pub makes_fresh : u ≡ fresh t.sheet (node_count t) (seat_count t) frames

abbrev IfAccepted : Tables → ℕ → Done ℕ → Type 0
IfAccepted t frames d = d.answer ≡ 0 → ClearAccepted t frames d.after

pub clear_accepted : (t : Tables) (frames : ℕ) → IfAccepted t frames (clear t frames)
unfolding clear
clear_accepted t frames =
    branch (IfAccepted t frames) (not (lengths_fit t)) (λ e q. absurd (omega arith)) (λ e.
    branch (IfAccepted t frames) (frames is 0) {y = done 0 (fresh t.sheet (node_count t) (seat_count t) frames)} (λ f q. absurd (omega arith)) (λ f q.
    record { lengths = not-false (lengths_fit t) e; some_frames = eqb-false frames 0 f; makes_fresh = refl }))

pub count_by_table : (t : Tables) (k : ℕ) → free_count t ≡ Counted.refused k → DamageRefuses t k
unfolding free_count
count_by_table t k =
    branch (λ a. a ≡ Counted.refused k → DamageRefuses t k) (not (sound t))
    (λ e q. let n : 1 ≡ k = cc in subst (DamageRefuses t) n (tables_damaged (not_true (sound t) e)))
    (λ e q. let z : ◌≡◌ {A = ℕ} 0 1 = cc in absurd (omega arith))

pub count_refused : (t : Tables) (k : ℕ) → DamageRefuses t k → free_count t ≡ Counted.refused k
unfolding free_count
count_refused t k (tables_damaged e) = rw e

-- the board on rows and on numbers, over what is lent, how many rows that has and what is answered where nothing is refused
module _ {A : Type 0} (t : Tables) (lent after : List A) (rows number covered : ℕ) where
  abbrev boarding : Shown A
  boarding =
      if not (sound t) then shown (Boarded.refused 1) lent
      else if rows <? length (holders t) then shown (Boarded.refused 9) lent
      else shown (Boarded.filled number covered) after

  boarding_by_table : (k : ℕ) → boarding.answer ≡ Boarded.refused k → BoardRefuses t rows k
  boarding_by_table k =
      branch (λ (x : Shown A). x.answer ≡ Boarded.refused k → BoardRefuses t rows k) (not (sound t))
      (λ e q. let n : 1 ≡ k = cc in subst (BoardRefuses t rows) n (board_damaged (not_true (sound t) e)))
      (λ e. branch (λ (x : Shown A). x.answer ≡ Boarded.refused k → BoardRefuses t rows k) (rows <? length (holders t))
      (λ f q. let n : 9 ≡ k = cc in subst (BoardRefuses t rows) n (too_few_rows (not-false (sound t) e) (ltb-true rows (length (holders t)) f)))
      (λ f q. let z : ◌≡◌ {A = ℕ} 0 1 = cc in absurd (omega arith)))

  boarding_refused : (k : ℕ) → BoardRefuses t rows k → boarding ≡ shown (Boarded.refused k) lent
  boarding_refused k (board_damaged e) = rw e
  boarding_refused k (too_few_rows e h) = rw (e, lt-ltb rows (length (holders t)) h)

pub board_by_table : (t : Tables) (lent : List Row) (k : ℕ) → (board t lent).answer ≡ Boarded.refused k → BoardRefuses t (length lent) k
unfolding board
board_by_table t lent k = boarding_by_table t lent _ (length lent) _ _ k

pub board_refused : (t : Tables) (lent : List Row) (k : ℕ) → BoardRefuses t (length lent) k → board t lent ≡ shown (Boarded.refused k) lent
unfolding board
board_refused t lent k = boarding_refused t lent _ (length lent) _ _ k

pub numbers_by_table : (t : Tables) (lent : List ℕ) (k : ℕ) → (board_numbers t lent).answer ≡ Boarded.refused k → BoardRefuses t (length lent / row_width) k
unfolding board_numbers
numbers_by_table t lent k = boarding_by_table t lent _ (length lent / row_width) _ _ k

pub numbers_refused : (t : Tables) (lent : List ℕ) (k : ℕ) → BoardRefuses t (length lent / row_width) k → board_numbers t lent ≡ shown (Boarded.refused k) lent
unfolding board_numbers
numbers_refused t lent k = boarding_refused t lent _ (length lent / row_width) _ _ k
