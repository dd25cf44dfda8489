-- What the code of this crate finds out of one record after the other.
use Rattle.std.specs.Prelude.{ℕ, zero, suc, ◌+◌, ◌*◌, ◌<◌, ◌≤◌, Bool, not, ◌≡◌, List, [], ◌∷◌, ℤ, pos, get_or, set, Result, Ok, Err}
use Rattle.rules.specs.Notation.{◌≤?◌, ◌<?◌}
use Rattle.rules.specs.Comparison.{Claim, claim}
use Rattle.rules.specs.Answers.{◌when◌, unless}
use Rattle.rules.specs.Locks.{Lock, lock, lock_of, Taken, taken, bad, import_lock, All, all, first_bad, record_width, moved}
use Rattle.rules.specs.declared.Moved.{Moved}
use Rattle.rules.specs.declared.Refused.{Refused}
use Rattle.rules.specs.declared.BadRecord.{BadRecord}
use Rattle.posix.specs.declared.Locked.{Locked}

-- ---- a lock as the rules have it
abbrev pub as_lock : Locked → Lock
as_lock k = lock k.lock_type k.start k.span

-- ---- a number of 32 bits
pub record IsWord (z : ℤ) : Type 0 where
  pub value : ℕ
  pub is : z ≡ pos value
  pub small : value ≤ 4294967295

-- ---- the number of a refusal, 0 of a record that is taken
abbrev pub refusal_of : {A : Type 0} → Taken A → ℕ
refusal_of (taken a) = 0
refusal_of (bad number) = number

-- of a lock whose run does not start below 0
unfoldable pub run_refusal : ℕ → ℕ → ℕ → Bool → ℕ
run_refusal title first end known =
    unless (λ number. number)
    ((12 when end ≤? first)
    ∷ (12 when 4294967295 <? end)
    ∷ (13 when not known)
    ∷ (11 when title <? end)
    ∷ [])
    0

-- ---- the record at a place of a lent list, and three numbers stored there
abbrev pub record_at : {A B : Type 0} → (A → A → A → B) → A → List A → ℕ → B
record_at make none l i = make (get_or l (record_width * i) none) (get_or l (record_width * i + 1) none) (get_or l (record_width * i + 2) none)

abbrev pub lock_at : List ℤ → ℕ → Lock
lock_at = record_at lock (pos 0)

abbrev pub claim_at : List ℕ → ℕ → Claim
claim_at = record_at claim 0

abbrev pub put3 : {A : Type 0} → List A → ℕ → A → A → A → List A
put3 l i a b c = set (set (set l (record_width * i) a) (record_width * i + 1) b) (record_width * i + 2) c

abbrev pub put_claim : List ℕ → ℕ → Claim → List ℕ
put_claim l i c = put3 l i c.start c.end c.kind

abbrev pub put_lock : List ℤ → ℕ → Lock → List ℤ
put_lock l i k = put3 l i k.type k.start k.length

-- ---- all records: the answer for the first bad one
abbrev pub verdict : {A : Type 0} → All A → Moved
verdict (all records) = moved 0 0
verdict (first_bad number place) = moved number place

-- what is found by looking at so many records one by one, where `says` tells what a look may answer: each of them passes, or one is bad and each before
-- it passes
unfoldable pub IsFirstBad : (ℕ → Result (Unit {0}) Refused → Type 0) → ℕ → Result (Unit {0}) BadRecord → Type 0
IsFirstBad says count (Ok _) = (i : ℕ) → i < count → says i (Ok tt)
IsFirstBad says count (Err found) = (found.place < count) × says found.place (Err found.why) × ((i : ℕ) → i < found.place → says i (Ok tt))

-- so many records from a place on, each by its place; and the list with them stored from that place on, one behind the other
unfoldable pub records_from : {A : Type 0} → (ℕ → A) → ℕ → ℕ → List A
records_from at i zero = []
records_from at i (suc n) = at i ∷ records_from at (i + 1) n

unfoldable pub put_from : {A B : Type 0} → (List A → ℕ → B → List A) → ℕ → List B → List A → List A
put_from put i [] l = l
put_from put i (r ∷ more) l = put_from put (i + 1) more (put l i r)

-- what is stored for the record at a place: of a lock, the claim that it is if it is not bad
abbrev pub claim_or0 : Taken Claim → Claim
claim_or0 (taken c) = c
claim_or0 (bad number) = claim 0 0 0

abbrev pub claim_for : ℕ → List ℤ → ℕ → Claim
claim_for title l i = claim_or0 (import_lock title (lock_at l i))

abbrev pub lock_for : ℕ → List ℕ → ℕ → Lock
lock_for title l i = lock_of title (claim_at l i)
