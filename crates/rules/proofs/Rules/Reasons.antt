-- Why a step does what it does: for each rule a type of its outcomes, each with what was looked at to come to it. A theorem on steps goes
-- by clauses on these, phase by phase. Over any tables.
use Rattle.std.specs.Prelude.{if◌then◌else◌}
use Prim.Native.Nat.{ℕ, ◌≤◌, ◌<◌}
use mathlib.Core.Path.{◌≡◌, refl}
use mathlib.Core.Bool.{true, false, not, ◌||◌}
use mathlib.Core.Logic.{◌≢◌, ◌⊎◌, inl, inr}
use lib.IntN.{ℤ}
use borrow.Author.Tests.{eqb-true, eqb-false, leb-true, leb-false, ne_eqb}
use Rattle.rules.specs.Notation.{◌is◌, ◌≤?◌}
use Rattle.rules.specs.Tables.{Tables, start, end, kind, mark, marked, link, next, head, phase, own, prev, cur, set_link, set_phase, set_prev, set_cur}
use Rattle.rules.specs.Comparison.{Claim, claim_of, reads, by_comparison}
use Rattle.rules.specs.Reach.{lowest_free}
use Rattle.rules.specs.Fetch.{Fetched, fetched, taken_out, take_node, fetch, fetch_again}
use Rattle.rules.specs.Answers.{Answer, Done, answered}
use Rattle.rules.specs.Steps.{move_to, joined, unlink, pass, link_in, start_validating, once_linked, look_again, insert, hold, withdraw, walking, waiting_to_enter, reader_validating, writer_validating, validating, reader_waiting, refetched, withdrawn, entering, step_by_phase}
use Rattle.rules.proofs.Ground.Logic.{branch, both, or_case, or_neither, not_true}
use Rattle.rules.proofs.Laws.Compared.{Precedes, Compared, after, before, clashing, compared}

-- ---- unlink and insert
-- "if prev is 0 or unmarked, and its link is cur"
pub record Joined (t : Tables) (s : ℕ) : Type 0 where
  pub unmarked : mark t (prev t s) ≢ 1
  pub to_cur : link t (prev t s) ≡ cur t s

pub is_joined : (t : Tables) (s : ℕ) → joined t s ≡ true → Joined t s
unfolding joined
is_joined t s e =
    let q = both (not (marked t (prev t s))) (link t (prev t s) is cur t s) e in
    record {
      unmarked = eqb-false (mark t (prev t s)) 1 (not_true (marked t (prev t s)) q.0);
      to_cur = eqb-true (link t (prev t s)) (cur t s) q.1;
    }

pub data Unlinking (t : Tables) (s : ℕ) : Tables → Type 0 where
  takes_out : Joined t s → Unlinking t s (set_cur (set_link t (prev t s) (next t (cur t s))) s (next t (cur t s)))
  goes_past : joined t s ≡ false → Unlinking t s (set_cur t s (next t (cur t s)))

pub unlinking : (t : Tables) (s : ℕ) → Unlinking t s (unlink t s)
unfolding unlink
unlinking t s = branch (Unlinking t s) (joined t s) (λ e. takes_out (is_joined t s e)) goes_past

pub data Starting (t : Tables) (s : ℕ) : Tables → Type 0 where
  as_reader : t.sheet ≡ false → kind t (own t s) ≡ 1 → Starting t s (move_to t s 3 (own t s) (next t (own t s)))
  as_writer : t.sheet ≡ false → kind t (own t s) ≢ 1 → Starting t s (move_to t s 3 0 (head t))
  on_sheet : t.sheet ≡ true → Starting t s (hold t s)

pub starting : (t : Tables) (s : ℕ) → Starting t s (once_linked t s)
unfolding once_linked start_validating
starting t s =
    branch (Starting t s) t.sheet on_sheet (λ e₀.
    branch (Starting t s) (reads (claim_of t (own t s)))
    (λ e. as_reader e₀ (eqb-true (kind t (own t s)) 1 e))
    (λ e. as_writer e₀ (eqb-false (kind t (own t s)) 1 e)))

pub data Inserting (t : Tables) (s : ℕ) : Tables → Type 0 where
  links_in : {u : Tables} → Joined t s → Starting (link_in t s) s u → Inserting t s u
  restarts : joined t s ≡ false → mark t (prev t s) ≡ 1 → Inserting t s (set_cur (set_prev t s 0) s (head t))
  rereads : joined t s ≡ false → mark t (prev t s) ≢ 1 → Inserting t s (set_cur t s (link t (prev t s)))

pub inserting : (t : Tables) (s : ℕ) → Inserting t s (insert t s)
unfolding insert look_again
inserting t s =
    branch (Inserting t s) (joined t s)
    (λ e. links_in (is_joined t s e) (starting (link_in t s) s))
    (λ e. branch (Inserting t s) (marked t (prev t s))
    (λ m. restarts e (eqb-true (mark t (prev t s)) 1 m))
    (λ m. rereads e (eqb-false (mark t (prev t s)) 1 m)))

-- ---- phase 1
pub data Walking (t : Tables) (s : ℕ) : Tables → Type 0 where
  inserts : {u : Tables} → (cur t s ≡ 0) ⊎ Precedes (claim_of t (own t s)) (claim_of t (cur t s)) → Inserting t s u → Walking t s u
  unlinks : {u : Tables} → cur t s ≢ 0 → mark t (cur t s) ≡ 1 → Unlinking t s u → Walking t s u
  passes : cur t s ≢ 0 → mark t (cur t s) ≢ 1 → Precedes (claim_of t (cur t s)) (claim_of t (own t s)) → Walking t s (pass t s)
  waits : cur t s ≢ 0 → mark t (cur t s) ≢ 1 → (Precedes (claim_of t (cur t s)) (claim_of t (own t s)) → ⊥)
      → (Precedes (claim_of t (own t s)) (claim_of t (cur t s)) → ⊥) → Walking t s (set_phase t s 2)

by_number : (t : Tables) (s : ℕ) {number : ℤ} → cur t s ≢ 0 → mark t (cur t s) ≢ 1 → Compared (claim_of t (cur t s)) (claim_of t (own t s)) number
    → Walking t s (by_comparison number (pass t s) (set_phase t s 2) (insert t s))
by_number t s c m (after p) = passes c m p
by_number t s c m (before p) = inserts (inr p) (inserting t s)
by_number t s c m (clashing f g) = waits c m f g

pub walks : (t : Tables) (s : ℕ) → Walking t s (walking t s)
unfolding walking
walks t s =
    branch (Walking t s) (cur t s is 0)
    (λ e. inserts (inl (eqb-true (cur t s) 0 e)) (inserting t s))
    (λ e. let c = eqb-false (cur t s) 0 e in
    branch (Walking t s) (marked t (cur t s))
    (λ m. unlinks c (eqb-true (mark t (cur t s)) 1 m) (unlinking t s))
    (λ m. by_number t s c (eqb-false (mark t (cur t s)) 1 m) (compared (claim_of t (cur t s)) (claim_of t (own t s)))))

-- ---- phases 2 and 4: back to phase P at a marked cur
pub data Waking (t : Tables) (s P : ℕ) : Tables → Type 0 where
  wakes : mark t (cur t s) ≡ 1 → Waking t s P (set_phase t s P)
  stays : mark t (cur t s) ≢ 1 → Waking t s P t

waking : (t : Tables) (s P : ℕ) → Waking t s P (if marked t (cur t s) then set_phase t s P else t)
waking t s P =
    branch (Waking t s P) (marked t (cur t s)) (λ m. wakes (eqb-true (mark t (cur t s)) 1 m)) (λ m. stays (eqb-false (mark t (cur t s)) 1 m))

pub wakes_to_walk : (t : Tables) (s : ℕ) → Waking t s 1 (waiting_to_enter t s)
unfolding waiting_to_enter
wakes_to_walk t s = waking t s 1

pub wakes_to_validate : (t : Tables) (s : ℕ) → Waking t s 3 (reader_waiting t s)
unfolding reader_waiting
wakes_to_validate t s = waking t s 3

-- ---- phase 3
pub data ReaderValidating (t : Tables) (s : ℕ) : Tables → Type 0 where
  reader_holds : (cur t s ≡ 0) ⊎ (end t (own t s) ≤ start t (cur t s)) → ReaderValidating t s (hold t s)
  reader_unlinks : {u : Tables} → cur t s ≢ 0 → mark t (cur t s) ≡ 1 → Unlinking t s u → ReaderValidating t s u
  reader_passes : cur t s ≢ 0 → mark t (cur t s) ≢ 1 → kind t (cur t s) ≡ 1 → ReaderValidating t s (pass t s)
  reader_waits : cur t s ≢ 0 → mark t (cur t s) ≢ 1 → kind t (cur t s) ≢ 1 → start t (cur t s) < end t (own t s)
      → ReaderValidating t s (set_phase t s 4)

reader_validates : (t : Tables) (s : ℕ) → ReaderValidating t s (reader_validating t s)
unfolding reader_validating
reader_validates t s =
    branch (ReaderValidating t s) (cur t s is 0 || end t (own t s) ≤? start t (cur t s))
    (λ e. reader_holds (elim (or_case (cur t s is 0) (end t (own t s) ≤? start t (cur t s)) e)
    [ inl p ↦ inl (eqb-true (cur t s) 0 p) | inr p ↦ inr (leb-true (end t (own t s)) (start t (cur t s)) p) ]))
    (λ e. let q = or_neither (cur t s is 0) (end t (own t s) ≤? start t (cur t s)) e in
    let c = eqb-false (cur t s) 0 q.0 in
    branch (ReaderValidating t s) (marked t (cur t s))
    (λ m. reader_unlinks c (eqb-true (mark t (cur t s)) 1 m) (unlinking t s))
    (λ m. let u = eqb-false (mark t (cur t s)) 1 m in
    branch (ReaderValidating t s) (reads (claim_of t (cur t s)))
    (λ k. reader_passes c u (eqb-true (kind t (cur t s)) 1 k))
    (λ k. reader_waits c u (eqb-false (kind t (cur t s)) 1 k) (leb-false (end t (own t s)) (start t (cur t s)) q.1))))

pub data WriterValidating (t : Tables) (s : ℕ) : Tables → Type 0 where
  writer_holds : cur t s ≡ own t s → WriterValidating t s (hold t s)
  writer_unlinks : {u : Tables} → cur t s ≢ own t s → cur t s ≢ 0 → mark t (cur t s) ≡ 1 → Unlinking t s u → WriterValidating t s u
  writer_passes : cur t s ≢ own t s → cur t s ≢ 0 → mark t (cur t s) ≢ 1 → end t (cur t s) ≤ start t (own t s) → WriterValidating t s (pass t s)
  withdraws : cur t s ≢ own t s → (cur t s ≡ 0) ⊎ ((mark t (cur t s) ≢ 1) × (start t (own t s) < end t (cur t s)))
      → WriterValidating t s (withdraw t s)

writer_validates : (t : Tables) (s : ℕ) → WriterValidating t s (writer_validating t s)
unfolding writer_validating
writer_validates t s =
    branch (WriterValidating t s) (cur t s is own t s)
    (λ e. writer_holds (eqb-true (cur t s) (own t s) e))
    (λ e. let d = eqb-false (cur t s) (own t s) e in
    branch (WriterValidating t s) (cur t s is 0)
    (λ z. withdraws d (inl (eqb-true (cur t s) 0 z)))
    (λ z. let c = eqb-false (cur t s) 0 z in
    branch (WriterValidating t s) (marked t (cur t s))
    (λ m. writer_unlinks d c (eqb-true (mark t (cur t s)) 1 m) (unlinking t s))
    (λ m. let u = eqb-false (mark t (cur t s)) 1 m in
    branch (WriterValidating t s) (end t (cur t s) ≤? start t (own t s))
    (λ k. writer_passes d c u (leb-true (end t (cur t s)) (start t (own t s)) k))
    (λ k. withdraws d (inr (u, leb-false (end t (cur t s)) (start t (own t s)) k))))))

pub data Validating (t : Tables) (s : ℕ) : Tables → Type 0 where
  validates_reader : {u : Tables} → kind t (own t s) ≡ 1 → ReaderValidating t s u → Validating t s u
  validates_writer : {u : Tables} → kind t (own t s) ≢ 1 → WriterValidating t s u → Validating t s u

pub validates : (t : Tables) (s : ℕ) → Validating t s (validating t s)
unfolding validating
validates t s =
    branch (Validating t s) (reads (claim_of t (own t s)))
    (λ e. validates_reader (eqb-true (kind t (own t s)) 1 e) (reader_validates t s))
    (λ e. validates_writer (eqb-false (kind t (own t s)) 1 e) (writer_validates t s))

-- ---- fetch: a node found at once, or after the marked ones are taken out, or none
pub data Fetching (t : Tables) (s : ℕ) (c : Claim) : Fetched → Type 0 where
  found : (a : ℕ) → lowest_free t s ≡ a → a ≢ 0 → Fetching t s c (fetched a (take_node t s a c))
  found_then : (a : ℕ) → lowest_free t s ≡ 0 → lowest_free (taken_out t) s ≡ a → a ≢ 0 → Fetching t s c (fetched a (take_node (taken_out t) s a c))
  none : lowest_free t s ≡ 0 → lowest_free (taken_out t) s ≡ 0 → Fetching t s c (fetched 0 t)

pub fetching : (t : Tables) (s : ℕ) (c : Claim) → Fetching t s c (fetch t s c)
unfolding fetch fetch_again
fetching t s c =
    branch (Fetching t s c) (lowest_free t s is 0)
    (λ e. let z = eqb-true (lowest_free t s) 0 e in
    branch (Fetching t s c) (lowest_free (taken_out t) s is 0)
    (λ f. none z (eqb-true (lowest_free (taken_out t) s) 0 f))
    (λ f. found_then (lowest_free (taken_out t) s) z refl (eqb-false (lowest_free (taken_out t) s) 0 f)))
    (λ e. found (lowest_free t s) refl (eqb-false (lowest_free t s) 0 e))

-- where it finds none it changes nothing
none_found : {t : Tables} {s : ℕ} {c : Claim} {f : Fetched} → Fetching t s c f → f.node ≡ 0 → f.after ≡ t
none_found (found a e z) q = absurd (z q)
none_found (found_then a e e' z) q = absurd (z q)
none_found (none e e') q = refl

pub fetch_none : (t : Tables) (s : ℕ) (c : Claim) → (fetch t s c).node ≡ 0 → (fetch t s c).after ≡ t
fetch_none t s c = none_found (fetching t s c)

-- ---- the step by phase
pub data Stepping (t : Tables) (s : ℕ) : Done Answer → Type 0 where
  in_1 : {u : Tables} → phase t s ≡ 1 → Walking t s u → Stepping t s (answered u s)
  in_2 : {u : Tables} → phase t s ≡ 2 → Waking t s 1 u → Stepping t s (answered u s)
  in_3 : {u : Tables} → phase t s ≡ 3 → Validating t s u → Stepping t s (answered u s)
  in_4 : {u : Tables} → phase t s ≡ 4 → Waking t s 3 u → Stepping t s (answered u s)
  in_6 : {f : Fetched} → phase t s ≡ 6 → Fetching t s (claim_of t (own t s)) f → Stepping t s (refetched t s f)
  in_7 : phase t s ≡ 7 → Stepping t s (answered (entering t s) s)
  at_rest : phase t s ≢ 1 → phase t s ≢ 2 → phase t s ≢ 3 → phase t s ≢ 4 → phase t s ≢ 6 → phase t s ≢ 7 → Stepping t s (answered t s)

pub steps : (t : Tables) (s : ℕ) → Stepping t s (step_by_phase t s)
unfolding step_by_phase withdrawn
steps t s =
    branch (Stepping t s) (phase t s is 1) (λ e. in_1 (eqb-true (phase t s) 1 e) (walks t s)) (λ d₁.
    branch (Stepping t s) (phase t s is 2) (λ e. in_2 (eqb-true (phase t s) 2 e) (wakes_to_walk t s)) (λ d₂.
    branch (Stepping t s) (phase t s is 3) (λ e. in_3 (eqb-true (phase t s) 3 e) (validates t s)) (λ d₃.
    branch (Stepping t s) (phase t s is 4) (λ e. in_4 (eqb-true (phase t s) 4 e) (wakes_to_validate t s)) (λ d₄.
    branch (Stepping t s) (phase t s is 6) (λ e. in_6 (eqb-true (phase t s) 6 e) (fetching t s (claim_of t (own t s)))) (λ d₆.
    branch (Stepping t s) (phase t s is 7) (λ e. in_7 (eqb-true (phase t s) 7 e)) (λ d₇.
    at_rest (eqb-false (phase t s) 1 d₁) (eqb-false (phase t s) 2 d₂) (eqb-false (phase t s) 3 d₃) (eqb-false (phase t s) 4 d₄) (eqb-false (phase t s) 6 d₆) (eqb-false (phase t s) 7 d₇)))))))

-- ---- and by the phase alone
module _ (t : Tables) (s : ℕ) where
  pub by_phase_1 : phase t s ≡ 1 → step_by_phase t s ≡ answered (walking t s) s
  unfolding step_by_phase
  by_phase_1 e = rw e

  pub by_phase_2 : phase t s ≡ 2 → step_by_phase t s ≡ answered (waiting_to_enter t s) s
  unfolding step_by_phase
  by_phase_2 e = rw e

  pub by_phase_3 : phase t s ≡ 3 → step_by_phase t s ≡ answered (validating t s) s
  unfolding step_by_phase
  by_phase_3 e = rw e

  pub by_phase_4 : phase t s ≡ 4 → step_by_phase t s ≡ answered (reader_waiting t s) s
  unfolding step_by_phase
  by_phase_4 e = rw e

  pub by_phase_5 : phase t s ≡ 5 → step_by_phase t s ≡ answered t s
  unfolding step_by_phase
  by_phase_5 e = rw e

  pub by_phase_6 : phase t s ≡ 6 → step_by_phase t s ≡ refetched t s (fetch t s (claim_of t (own t s)))
  unfolding step_by_phase withdrawn
  by_phase_6 e = rw e

  pub by_phase_7 : phase t s ≡ 7 → step_by_phase t s ≡ answered (entering t s) s
  unfolding step_by_phase
  by_phase_7 e = rw e

  pub by_no_phase : phase t s ≢ 1 → phase t s ≢ 2 → phase t s ≢ 3 → phase t s ≢ 4 → phase t s ≢ 6 → phase t s ≢ 7 → step_by_phase t s ≡ answered t s
  unfolding step_by_phase
  by_no_phase d₁ d₂ d₃ d₄ d₆ d₇ =
      rw (ne_eqb (phase t s) 1 d₁, ne_eqb (phase t s) 2 d₂, ne_eqb (phase t s) 3 d₃, ne_eqb (phase t s) 4 d₄, ne_eqb (phase t s) 6 d₆, ne_eqb (phase t s) 7 d₇)
