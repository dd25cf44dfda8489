-- A lock and its claim cover the same frames; what goes out comes in again as it was, and what comes in goes out with the same frames: one record,
-- several, and whole lists as they are lent.
use Prim.Native.Nat.{ℕ, ◌-◌, ◌*◌, ◌/◌, ◌≤◌, ◌<◌}
use mathlib.Core.Path.{◌≡◌, refl, sym, ap, subst, ◌∙◌}
use mathlib.Core.List.{List, [], ◌∷◌, ◌++◌}
use mathlib.Core.Bool.{true}
use mathlib.Core.Logic.{◌≢◌, inl, inr, ⊎_elim}
use native.Mathlib.Omega.{arith}
use lib.Dec.{leb→le, le→leb, lt→ltb}
use lib.IntN.{ℤ, pos, ◌-ℤ◌}
use lib.ListN.{length, take, drop}
use lib.Signed.{◌≤ℤ◌, ◌<ℤ◌, le_z_yes, lt_z_yes}
use borrow.Author.Tests.{le-ltb, eq-eqb, ne_eqb}
use Rattle.rules.specs.Tables.{Tables, title, phase, own, kind}
use Rattle.rules.specs.Comparison.{Claim, claim}
use Rattle.rules.specs.Shape.{sound}
use Rattle.rules.specs.Locks.{Lock, lock, last_frame, lock_of, taken, import_lock, export_claim, all, each, record_width, locks_in, lock_numbers, claims_in, claim_numbers, listed, moved, import_locks, export_claims}
use Rattle.rules.specs.Play.{reserve_call}
use Rattle.rules.specs.Refusing.{Refuses, damaged, no_such_seat, no_frames, beyond_title, no_kind, reads_on_sheet, not_idle, none_to_reserve}
use Rattle.rules.specs.Apart.{Covers, claim_of_seat}
use Rattle.rules.specs.Archive.{LockCovers, SameFrames, Pairwise, no_more, and_then, OutAgain, record_numbers}
use Rattle.rules.proofs.Laws.Shape.{IsKind, is_kind_law, kind_is, Names, Sound, is_sound}
use Rattle.rules.proofs.Laws.Records.{records_of, taken_all, taken_too, accepted, written_so, taken_length, threes_length, records_length, read_back, written_back, take_front}
use Rattle.rules.proofs.Laws.Locks.{Imports, imports, imported, Exports, exports, exported, out_and_in, in_and_out, last_is, import_never_0, export_never_0}

-- ---- the frames
most : (a b : ℕ) → a ≤ b → pos a ≤ℤ pos b
most a b h = le_z_yes (le→leb a b h)

at_most : (a b : ℕ) → pos a ≤ℤ pos b → a ≤ b
at_most a b h = leb→le a b h.le

module _ (title : ℕ) (l : Lock) (c : Claim) (i : Imports title l c) where
  last : last_frame title l ≡ pos (c.end - 1)
  last = last_is title l ∙ ap (λ z. z -ℤ pos 1) i.end ∙ (let s = i.some in let h : 1 ≤ c.end = omega arith in rw (le-ltb c.end 1 h))

  pub claim_as_lock : (frame : ℕ) → Covers c frame → LockCovers title l frame
  claim_as_lock frame h =
      (subst (λ z. z ≤ℤ pos frame) (sym i.first) (most c.start frame h.0), subst (λ z. pos frame ≤ℤ z) (sym last) (most frame (c.end - 1) (let e = h.1 in omega arith)))

  pub lock_as_claim : (frame : ℕ) → LockCovers title l frame → Covers c frame
  lock_as_claim frame h =
      let e = at_most frame (c.end - 1) (subst (λ z. pos frame ≤ℤ z) last h.1) in
      let s = i.some in
      (at_most c.start frame (subst (λ z. z ≤ℤ pos frame) i.first h.0), omega arith)

-- ---- the numbers of an exported claim
module _ (title : ℕ) (c : Claim) (l : Lock) (q : export_claim title c ≡ taken l) where
  pub zero_at_end : c.end ≡ title → l.length ≡ pos 0
  zero_at_end e = rw ((exports title c l q).1, eq-eqb c.end title e)

  pub positive_else : c.end ≢ title → pos 0 <ℤ l.length
  positive_else d =
      let e = exports title c l q in
      let s = e.0.some in
      let h : 0 < c.end - c.start = omega arith in
      rw (e.1, ne_eqb c.end title d) (lt_z_yes (lt→ltb 0 (c.end - c.start) h))

  pub exported_numbers : (l.start ≡ pos c.start) × (l.type ≡ pos c.kind)
  exported_numbers = rw (exports title c l q).1 (refl, refl)

-- ---- tables: reserve refuses no claim that was imported for its table's title on account of its frames, its end or its kind, but for a reader of a
-- sheet
abbrev OfAReaderThere : Tables → Claim → Type 0
OfAReaderThere t c = (t.sheet ≡ true) × (c.kind ≡ 1)

refuses_otherwise : (t : Tables) (s : ℕ) (c : Claim) (k : ℕ) → Exports (title t) c → Refuses t (reserve_call s c) k
    → (k ≢ 3) × (k ≢ 11) × (k ≡ 4 → OfAReaderThere t c)
refuses_otherwise t s c k e (damaged z) = (λ q. omega arith, λ q. omega arith, λ q. absurd (omega arith))
refuses_otherwise t s c k e (no_such_seat z h) = (λ q. omega arith, λ q. omega arith, λ q. absurd (omega arith))
refuses_otherwise t s c k e (no_frames w h) = let i = e.some in absurd (omega arith)
refuses_otherwise t s c k e (beyond_title w h b) = let i = e.within in absurd (omega arith)
refuses_otherwise t s c k e (no_kind w h b d f) = absurd (⊎_elim d f (is_kind_law c.kind e.known))
refuses_otherwise t s c k e (reads_on_sheet w h b x y) = (λ q. omega arith, λ q. omega arith, λ q. (x, y))
refuses_otherwise t s c k e (not_idle w p y h d) = (λ q. omega arith, λ q. omega arith, λ q. absurd (omega arith))
refuses_otherwise t s c k e (none_to_reserve w p y h z n) = (λ q. omega arith, λ q. omega arith, λ q. absurd (omega arith))

pub reserve_takes : (t : Tables) (s k : ℕ) (l : Lock) (c : Claim) → import_lock (title t) l ≡ taken c → Refuses t (reserve_call s c) k
    → (k ≢ 3) × (k ≢ 11) × (k ≡ 4 → OfAReaderThere t c)
reserve_takes t s k l c q = let i = imports (title t) l c q in refuses_otherwise t s c k (record { some = i.some; within = i.within; known = i.known })

-- and every claim of sound tables can be exported for their title
pub claims_export : (t : Tables) (s : ℕ) → sound t ≡ true → phase t s ≢ 0 → export_claim (title t) (claim_of_seat t s) ≡ taken (lock_of (title t) (claim_of_seat t s))
claims_export t s e d = go (w.seat s).own_names
  where
    w : Sound t
    w = is_sound t e

    some : own t s ≢ 0
    some = (w.seat s).owning d

    no_kind_0 : IsKind (kind t (own t s)) → kind t (own t s) ≡ 0 → ⊥
    no_kind_0 (inl p) z = omega arith
    no_kind_0 (inr p) z = omega arith

    go : Names t (own t s) → export_claim (title t) (claim_of_seat t s) ≡ taken (lock_of (title t) (claim_of_seat t s))
    go (inl z) = absurd (some z)
    go (inr k) =
        exported (title t) (claim_of_seat t s)
        (record {
          some = ⊎_elim (λ z. absurd (no_kind_0 k.1.0 z.kind_zero)) (λ z. z.some) (w.node (own t s) some k.0);
          within = w.all_within.within (own t s);
          known = kind_is (kind t (own t s)) k.1.0;
        })

-- ---- several records
module _ (title : ℕ) (small : title ≤ 4294967295) where
  pub back_again : (c : Claim) (l : Lock) → export_claim title c ≡ taken l → import_lock title l ≡ taken c
  back_again c l q = let e = exports title c l q in rw e.1 (imported title (lock_of title c) c (out_and_in title c small e.0))

  pub all_back_again : (claims : List Claim) (locks : List Lock) → each (export_claim title) claims ≡ all locks → each (import_lock title) locks ≡ all claims
  unfolding each
  all_back_again [] locks q = rw (← ap records_of q)
  all_back_again (c ∷ more) locks q =
      let w = taken_all (export_claim title c) (each (export_claim title) more) locks q in
      rw (w.are, back_again c w.one w.first, all_back_again more w.more w.others)

  pub out_again : (l : Lock) (c : Claim) → import_lock title l ≡ taken c → (export_claim title c ≡ taken (lock_of title c)) × SameFrames title l (lock_of title c)
  out_again l c q = in_and_out title l c small (imports title l c q)

  pub all_out_again : (locks : List Lock) (claims : List Claim) → each (import_lock title) locks ≡ all claims → OutAgain title locks claims
  unfolding each
  all_out_again [] claims q = record { list = []; are = rw (← ap records_of q); alike = no_more }
  all_out_again (l ∷ more) claims q =
      let w = taken_all (import_lock title l) (each (import_lock title) more) claims q in
      let o = out_again l w.one w.first in
      let m = all_out_again more w.more w.others in
      record { list = lock_of title w.one ∷ m.list; are = ap (each (export_claim title)) w.are ∙ taken_too (export_claim title) w.one w.more (lock_of title w.one) m.list o.0 m.are; alike = and_then o.1 m.alike }

  -- ---- lists as they are lent
  lock_numbers_law : (locks : List Lock) → locks_in (lock_numbers locks) ≡ locks
  lock_numbers_law = read_back lock (λ l. l.type) (λ l. l.start) (λ l. l.length) (λ l. refl)

  claim_numbers_law : (claims : List Claim) → claims_in (claim_numbers claims) ≡ claims
  claim_numbers_law = read_back claim (λ c. c.start) (λ c. c.end) (λ c. c.kind) (λ c. refl)

  -- what an accepted export stored, and what an accepted import did
  gone : (claims : List ℕ) (lent : List ℤ) (locks : List Lock) → title ≢ 0 → each (export_claim title) (claims_in claims) ≡ all locks → length locks ≤ length lent / record_width
      → length locks ≡ length (claims_in claims) → take (record_numbers claims) (export_claims title claims lent).after ≡ lock_numbers locks
  unfolding export_claims
  gone claims lent locks d e room n =
      let k = records_length claim claims in
      let t = threes_length (λ l. l.type) (λ l. l.start) (λ l. l.length) locks in
      ap (λ z. take (record_numbers claims) z.after) (written_so (export_claim title) (export_never_0 title) lock_numbers title (claims_in claims) lent locks d e room)
      ∙ take_front (lock_numbers locks) (drop (record_width * length locks) lent) (record_numbers claims) (omega arith)

  come : (locks : List ℤ) (lent : List ℕ) (claims : List Claim) → title ≢ 0 → each (import_lock title) (locks_in locks) ≡ all claims → length claims ≤ length lent / record_width
      → length claims ≡ length (locks_in locks) → take (record_numbers locks) (import_locks title locks lent).after ≡ claim_numbers claims
  unfolding import_locks
  come locks lent claims d e room n =
      let k = records_length lock locks in
      let t = threes_length (λ c. c.start) (λ c. c.end) (λ c. c.kind) claims in
      ap (λ z. take (record_numbers locks) z.after) (written_so (import_lock title) (import_never_0 title) claim_numbers title (locks_in locks) lent claims d e room)
      ∙ take_front (claim_numbers claims) (drop (record_width * length claims) lent) (record_numbers locks) (omega arith)

  pub list_back_again : (claims : List ℕ) (lent : List ℤ) (back : List ℕ) → (export_claims title claims lent).answer ≡ moved 0 0 → length claims / record_width ≤ length back / record_width
      → import_locks title (take (record_numbers claims) (export_claims title claims lent).after) back ≡ listed (moved 0 0) (take (record_numbers claims) claims ++ drop (record_numbers claims) back)
  unfolding import_locks export_claims
  list_back_again claims lent back q room =
      let a = accepted (export_claim title) (export_never_0 title) lock_numbers title (claims_in claims) lent q in
      let n = records_length claim claims in
      let again = all_back_again (claims_in claims) a.list a.are in
      rw (
        gone claims lent a.list a.some_title a.are a.room a.as_many,
        written_so (import_lock title) (import_never_0 title) claim_numbers title (locks_in (lock_numbers a.list)) back (claims_in claims) a.some_title
            (ap (each (import_lock title)) (lock_numbers_law a.list) ∙ again) (omega arith),
        written_back claim (λ c. c.start) (λ c. c.end) (λ c. c.kind) (λ a b c. refl) (λ a b c. refl) (λ a b c. refl) claims,
        n,
      )

  pub list_out_again : (locks : List ℤ) (lent : List ℕ) (back : List ℤ) → (import_locks title locks lent).answer ≡ moved 0 0 → length locks / record_width ≤ length back / record_width
      → ((export_claims title (take (record_numbers locks) (import_locks title locks lent).after) back).answer ≡ moved 0 0)
      × Pairwise (SameFrames title) (locks_in locks) (locks_in (take (record_numbers locks) (export_claims title (take (record_numbers locks) (import_locks title locks lent).after) back).after))
  unfolding import_locks export_claims
  list_out_again locks lent back q room =
      let a = accepted (import_lock title) (import_never_0 title) claim_numbers title (locks_in locks) lent q in
      let o = all_out_again (locks_in locks) a.list a.are in
      let n = records_length lock locks in
      let m = a.as_many in
      let k = taken_length (export_claim title) a.list o.list o.are in
      let t = threes_length (λ l. l.type) (λ l. l.start) (λ l. l.length) o.list in
      let c : export_claims title (take (record_numbers locks) (import_locks title locks lent).after) back ≡ listed (moved 0 0) (lock_numbers o.list ++ drop (record_width * length o.list) back) =
      ap (λ (x : List ℕ). export_claims title x back) (come locks lent a.list a.some_title a.are a.room m)
      ∙ written_so (export_claim title) (export_never_0 title) lock_numbers title (claims_in (claim_numbers a.list)) back o.list a.some_title
      (ap (each (export_claim title)) (claim_numbers_law a.list) ∙ o.are) (omega arith) in (
        ap (λ z. z.answer) c,
        subst (Pairwise (SameFrames title) (locks_in locks))
            (sym
            (ap (λ z. locks_in (take (record_numbers locks) z.after)) c
            ∙ ap locks_in (take_front (lock_numbers o.list) (drop (record_width * length o.list) back) (record_numbers locks) (omega arith))
            ∙ lock_numbers_law o.list))
            o.alike,
      )
