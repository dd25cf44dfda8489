-- The two calls by each way through them, by the laws of lists of any records.
use Prim.Native.Nat.{ℕ, suc, ◌+◌, ◌/◌, ◌<◌, ◌≤◌}
use Rattle.std.specs.Prelude.{Result, Err}
use mathlib.Core.Path.{◌≡◌, refl, sym, ap, ◌∙◌}
use mathlib.Core.List.{List}
use native.Mathlib.Omega.{arith}
use lib.IntN.{ℤ, pos}
use lib.ListN.{length}
use borrow.Author.Tests.{ne_eqb, eq-eqb}
use Rattle.rules.specs.Comparison.{Claim, claim}
use Rattle.rules.specs.Locks.{Lock, lock, taken, bad, import_lock, lock_of, export_claim, each, record_width, locks_in, lock_numbers, claims_in, claim_numbers, listed, moved, import_locks, export_claims}
use Rattle.rules.specs.Means.{means_done, means_moved}
use Rattle.rules.specs.declared.BadRecord.{BadRecord}
use Rattle.rules.specs.declared.Refused.{Refused}
use Rattle.rules.proofs.Laws.Locks.{exporting, import_never_0, export_never_0}
use Rattle.posix.specs.Records.{lock_at, claim_at, put_claim, put_lock, verdict, IsFirstBad, records_from, put_from, claim_or0, claim_for, lock_for, refusal_of}
use Rattle.posix.proofs.One.{is_claim}
use Rattle.posix.proofs.Lists as lists
use Rattle.posix.proofs.Lists.{StoredUpTo}

-- ---- a claim that is not refused: it has a frame, and is taken for its lock
record Exported (title : ℕ) (c : Claim) : Type 0 where
  in_order : c.start ≤ c.end
  is : export_claim title c ≡ taken (lock_of title c)

exported : (title : ℕ) (c : Claim) → refusal_of (export_claim title c) ≡ 0 → Exported title c
exported title c q =
    exporting title (λ x. export_claim title c ≡ x → Exported title c) c (λ e. refused 2) (λ e f. refused 10) (λ e f g. refused 3)
    (λ e f g is. record { in_order = omega arith; is = is }) refl
  where
    refused : (m : ℕ) → export_claim title c ≡ bad (suc m) → Exported title c
    refused m is = absurd (let e : suc m ≡ 0 = sym (ap refusal_of is) ∙ q in omega arith)

-- ---- the locks of a list: what is found by looking at each, and each is passed if all are
module _ (title : ℕ) (l : List ℤ) where
  claim_is : (j : ℕ) → refusal_of (import_lock title (lock_at l j)) ≡ 0 → import_lock title (lock_at l j) ≡ taken (claim_for title l j)
  claim_is j = is_claim (import_lock title (lock_at l j)) (import_never_0 title (lock_at l j))

  pub locks_found : (says : ℕ → Result (Unit {0}) Refused → Type 0)
      → ((j : ℕ) (r : Result (Unit {0}) Refused) → j < length l / record_width → says j r → means_done r ≡ refusal_of (import_lock title (lock_at l j)))
      → (found : Result (Unit {0}) BadRecord) → IsFirstBad says (length l / record_width) found
      → means_moved found ≡ verdict (each (import_lock title) (locks_in l))
  locks_found = lists.found_is lock (pos 0) (import_lock title) l (claim_for title l) claim_is

  module _ (accepted : moved 0 0 ≡ verdict (each (import_lock title) (locks_in l))) where
    pub lock_passed : (place : ℕ) → place < length l / 3 → (k : Lock) → k ≡ lock_at l place → refusal_of (import_lock title k) ≡ 0
    lock_passed place h k e = rw e (lists.each_passed lock (pos 0) (import_lock title) l (import_never_0 title) accepted place h)

-- ---- the claims of a list, likewise
module _ (title : ℕ) (l : List ℕ) where
  lock_is : (j : ℕ) → refusal_of (export_claim title (claim_at l j)) ≡ 0 → export_claim title (claim_at l j) ≡ taken (lock_for title l j)
  lock_is j q = (exported title (claim_at l j) q).is

  pub claims_found : (says : ℕ → Result (Unit {0}) Refused → Type 0)
      → ((j : ℕ) (r : Result (Unit {0}) Refused) → j < length l / record_width → says j r → means_done r ≡ refusal_of (export_claim title (claim_at l j)))
      → (found : Result (Unit {0}) BadRecord) → IsFirstBad says (length l / record_width) found
      → means_moved found ≡ verdict (each (export_claim title) (claims_in l))
  claims_found = lists.found_is claim 0 (export_claim title) l (lock_for title l) lock_is

  module _ (accepted : moved 0 0 ≡ verdict (each (export_claim title) (claims_in l))) where
    pub claim_in_order : (place start end kind : ℕ) → place < length l / 3 → claim start end kind ≡ claim_at l place → start ≤ end
    claim_in_order place start end kind h e =
        (exported title (claim start end kind) (rw e (lists.each_passed claim 0 (export_claim title) l (export_never_0 title) accepted place h))).in_order

-- ---- what is stored for one: the claim of a lock, and the lock of a claim
pub claim_stored : (title n place : ℕ) (l : List ℤ) (given sofar after : List ℕ) (k : Lock) (c : Claim)
    → StoredUpTo put_claim (claim_for title l) given n place sofar → place < n
    → k ≡ lock_at l place → taken c ≡ import_lock title k → after ≡ put_claim sofar place c → StoredUpTo put_claim (claim_for title l) given n (place + 1) after
claim_stored title n place l given sofar after k c inv h e q p =
    lists.stored_on put_claim (claim_for title l) given n place sofar after inv h
    (p ∙ ap (λ x. put_claim sofar place (claim_or0 x)) (q ∙ ap (import_lock title) e))

pub lock_stored : (title n place : ℕ) (l : List ℕ) (given sofar after : List ℤ) (c : Claim) (k : Lock)
    → StoredUpTo put_lock (lock_for title l) given n place sofar → place < n
    → c ≡ claim_at l place → k ≡ lock_of title c → after ≡ put_lock sofar place k → StoredUpTo put_lock (lock_for title l) given n (place + 1) after
lock_stored title n place l given sofar after c k inv h e q p =
    lists.stored_on put_lock (lock_for title l) given n place sofar after inv h (p ∙ ap (put_lock sofar place) (q ∙ ap (lock_of title) e))

-- ---- the calls
module _ (title : ℕ) (l : List ℤ) (lent : List ℕ) where
  pub import_no_title : title ≡ 0 → listed (moved 3 0) lent ≡ import_locks title l lent
  unfolding import_locks
  import_no_title e = rw (eq-eqb title 0 e)

  module _ (some : title ≡ 0 → ⊥) where
    pub import_refused : (found : BadRecord) → means_moved (Err found) ≡ verdict (each (import_lock title) (locks_in l))
        → listed (means_moved (Err found)) lent ≡ import_locks title l lent
    unfolding import_locks
    import_refused found q = rw (ne_eqb title 0 some) (lists.call_refused claim_numbers (each (import_lock title) (locks_in l)) found lent q)

    module _ (accepted : moved 0 0 ≡ verdict (each (import_lock title) (locks_in l))) where
      pub import_short : length lent / 3 < length l / 3 → listed (moved 9 0) lent ≡ import_locks title l lent
      unfolding import_locks
      import_short h =
          rw (ne_eqb title 0 some)
          (lists.call_short lock (pos 0) (import_lock title) l (claim_for title l) (claim_is title l) (λ c. c.start) (λ c. c.end) (λ c. c.kind) (import_never_0 title) accepted lent h)

      pub import_accepted : (after : List ℕ) → length l / 3 ≤ length lent / 3
          → after ≡ put_from put_claim 0 (records_from (claim_for title l) 0 (length l / record_width)) lent
          → listed (moved 0 0) after ≡ import_locks title l lent
      unfolding import_locks
      import_accepted after h p =
          rw (ne_eqb title 0 some)
          (lists.call_accepted lock (pos 0) (import_lock title) l (claim_for title l) (claim_is title l) (λ c. c.start) (λ c. c.end) (λ c. c.kind) (import_never_0 title) accepted lent after h p)

module _ (title : ℕ) (l : List ℕ) (lent : List ℤ) where
  pub export_no_title : title ≡ 0 → listed (moved 3 0) lent ≡ export_claims title l lent
  unfolding export_claims
  export_no_title e = rw (eq-eqb title 0 e)

  module _ (some : title ≡ 0 → ⊥) where
    pub export_refused : (found : BadRecord) → means_moved (Err found) ≡ verdict (each (export_claim title) (claims_in l))
        → listed (means_moved (Err found)) lent ≡ export_claims title l lent
    unfolding export_claims
    export_refused found q = rw (ne_eqb title 0 some) (lists.call_refused lock_numbers (each (export_claim title) (claims_in l)) found lent q)

    module _ (accepted : moved 0 0 ≡ verdict (each (export_claim title) (claims_in l))) where
      pub export_short : length lent / 3 < length l / 3 → listed (moved 9 0) lent ≡ export_claims title l lent
      unfolding export_claims
      export_short h =
          rw (ne_eqb title 0 some)
          (lists.call_short claim 0 (export_claim title) l (lock_for title l) (lock_is title l) (λ k. k.type) (λ k. k.start) (λ k. k.length) (export_never_0 title) accepted lent h)

      pub export_accepted : (after : List ℤ) → length l / 3 ≤ length lent / 3
          → after ≡ put_from put_lock 0 (records_from (lock_for title l) 0 (length l / record_width)) lent
          → listed (moved 0 0) after ≡ export_claims title l lent
      unfolding export_claims
      export_accepted after h p =
          rw (ne_eqb title 0 some)
          (lists.call_accepted claim 0 (export_claim title) l (lock_for title l) (lock_is title l) (λ k. k.type) (λ k. k.start) (λ k. k.length) (export_never_0 title) accepted lent after h p)
