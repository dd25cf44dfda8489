-- Request (vi) of document 02: locks from the archive's file system. That an imported lock and its claim cover the same frames, which numbers export
-- gives, and that what goes there and back is the same: one record, several, and lists as they are lent. Of any numbers; "at most 4,294,967,295" is said
-- of the title's frame count, which is a word of 32 bits. Nothing else stands here: the words are those of specs/Archive.antt, and each proof is a
-- citation, or, where numbers are given, computed. Which refusals there are is said in Refusing.
use Prim.Native.Nat.{ℕ, ◌/◌, ◌≤◌, ◌<◌}
use mathlib.Core.Path.{◌≡◌, refl}
use mathlib.Core.Bool.{true}
use mathlib.Core.List.{List, [], ◌∷◌, ◌++◌}
use mathlib.Core.Logic.{◌≢◌}
use lib.IntN.{ℤ, pos, negsuc}
use lib.ListN.{length, take, drop}
use lib.Signed.{◌<ℤ◌}
use Rattle.rules.specs.Tables.{Tables, title, phase}
use Rattle.rules.specs.Comparison.{Claim, claim}
use Rattle.rules.specs.Shape.{sound}
use Rattle.rules.specs.Play.{reserve_call}
use Rattle.rules.specs.Locks.{Lock, lock, lock_of, taken, bad, import_lock, export_claim, all, each, record_width, locks_in, listed, moved, import_locks, export_claims}
use Rattle.rules.specs.Refusing.{Refuses}
use Rattle.rules.specs.Apart.{Covers, claim_of_seat}
use Rattle.rules.specs.Archive.{LockCovers, SameFrames, Pairwise, OutAgain, record_numbers}
use Rattle.rules.proofs.Laws.Opened.{rules}
use Rattle.rules.proofs.Laws.Locks as laws
use Rattle.rules.proofs.Laws.ThereAndBack as back

-- ---- import: the claim covers the frames of the lock and no others, and reads or writes as it does
pub imported_covers : (frames : ℕ) (l : Lock) (c : Claim) → import_lock frames l ≡ taken c → (frame : ℕ) → Covers c frame → LockCovers frames l frame
imported_covers frames l c q = back.claim_as_lock frames l c (laws.imports frames l c q)

pub imported_covers_no_other : (frames : ℕ) (l : Lock) (c : Claim) → import_lock frames l ≡ taken c → (frame : ℕ) → LockCovers frames l frame → Covers c frame
imported_covers_no_other frames l c q = back.lock_as_claim frames l c (laws.imports frames l c q)

pub imported_kind : (frames : ℕ) (l : Lock) (c : Claim) → import_lock frames l ≡ taken c → l.type ≡ pos c.kind
imported_kind frames l c q = (laws.imports frames l c q).type

-- "Import gives begin's numbers": 32 bits hold them, and on a table of that title reserve, which has them since (vii), does not refuse them as a claim, by 3, 11 or 4,
-- but for a reader's on a sheet, by 4
pub imported_fits : (frames : ℕ) (l : Lock) (c : Claim) → import_lock frames l ≡ taken c → (c.start < c.end) × (c.end ≤ 4294967295)
imported_fits frames l c q = let i = laws.imports frames l c q in (i.some, i.small)

pub reserve_takes_it : (t : Tables) (s k : ℕ) (l : Lock) (c : Claim) → import_lock (title t) l ≡ taken c → Refuses t (reserve_call s c) k
    → (k ≢ 3) × (k ≢ 11) × (k ≡ 4 → (t.sheet ≡ true) × (c.kind ≡ 1))
reserve_takes_it = back.reserve_takes

-- ---- "export gives back positive lengths, and 0 exactly where the claim ends at the title's end"
pub zero_at_the_end : (frames : ℕ) (c : Claim) (l : Lock) → export_claim frames c ≡ taken l → c.end ≡ frames → l.length ≡ pos 0
zero_at_the_end = back.zero_at_end

pub positive_elsewhere : (frames : ℕ) (c : Claim) (l : Lock) → export_claim frames c ≡ taken l → c.end ≢ frames → pos 0 <ℤ l.length
positive_elsewhere = back.positive_else

pub exported_start : (frames : ℕ) (c : Claim) (l : Lock) → export_claim frames c ≡ taken l → (l.start ≡ pos c.start) × (l.type ≡ pos c.kind)
exported_start = back.exported_numbers

-- every claim of sound tables, a holder's among them, can be exported for their title
pub claims_export : (t : Tables) (s : ℕ) → sound t ≡ true → phase t s ≢ 0 → export_claim (title t) (claim_of_seat t s) ≡ taken (lock_of (title t) (claim_of_seat t s))
claims_export = back.claims_export

-- ---- "Export then import gives the same claim"
pub same_claim : (frames : ℕ) → frames ≤ 4294967295 → (c : Claim) (l : Lock) → export_claim frames c ≡ taken l → import_lock frames l ≡ taken c
same_claim = back.back_again

pub same_claims : (frames : ℕ) → frames ≤ 4294967295 → (claims : List Claim) (locks : List Lock) → each (export_claim frames) claims ≡ all locks
    → each (import_lock frames) locks ≡ all claims
same_claims = back.all_back_again

-- of lists as they are lent: what export stored for the claims is imported as the numbers of the claims, wherever there is room for them
pub same_numbers : (frames : ℕ) → frames ≤ 4294967295 → (claims : List ℕ) (lent : List ℤ) (again : List ℕ) → (export_claims frames claims lent).answer ≡ moved 0 0
    → length claims / record_width ≤ length again / record_width
    → import_locks frames (take (record_numbers claims) (export_claims frames claims lent).after) again
    ≡ listed (moved 0 0) (take (record_numbers claims) claims ++ drop (record_numbers claims) again)
same_numbers = back.list_back_again

-- ---- "the other way the same frames"
pub same_frames : (frames : ℕ) → frames ≤ 4294967295 → (l : Lock) (c : Claim) → import_lock frames l ≡ taken c
    → (export_claim frames c ≡ taken (lock_of frames c)) × SameFrames frames l (lock_of frames c)
same_frames = back.out_again

pub same_frames_of_all : (frames : ℕ) → frames ≤ 4294967295 → (locks : List Lock) (claims : List Claim) → each (import_lock frames) locks ≡ all claims
    → OutAgain frames locks claims
same_frames_of_all = back.all_out_again

pub same_frames_in_lists : (frames : ℕ) → frames ≤ 4294967295 → (locks : List ℤ) (lent : List ℕ) (again : List ℤ) → (import_locks frames locks lent).answer ≡ moved 0 0
    → length locks / record_width ≤ length again / record_width
    → ((export_claims frames (take (record_numbers locks) (import_locks frames locks lent).after) again).answer ≡ moved 0 0)
    × Pairwise (SameFrames frames) (locks_in locks)
    (locks_in (take (record_numbers locks) (export_claims frames (take (record_numbers locks) (import_locks frames locks lent).after) again).after))
same_frames_in_lists = back.list_out_again

-- ---- worked: −1 is `negsuc 0`. A lock for reading, a negative length, and one that reaches the title's end, of 100 frames
pub worked_locks :
    (import_lock 100 (lock (pos 1) (pos 10) (pos 5)) ≡ taken (claim 10 15 1))
    × (import_lock 100 (lock (pos 2) (pos 10) (negsuc 4)) ≡ taken (claim 5 10 2))
    × (import_lock 100 (lock (pos 2) (pos 10) (negsuc 9)) ≡ taken (claim 0 10 2))
    × (import_lock 100 (lock (pos 2) (pos 10) (pos 0)) ≡ taken (claim 10 100 2))
    × (import_lock 100 (lock (pos 2) (pos 10) (pos 90)) ≡ taken (claim 10 100 2))
    -- it starts below 0, by its start or by its length; it is empty, and so 12 where it would be 11 too; it ends past 4,294,967,295, where sums in 64 bits would wrap too
    × (import_lock 100 (lock (pos 1) (negsuc 0) (pos 5)) ≡ bad 12)
    × (import_lock 100 (lock (pos 2) (pos 10) (negsuc 10)) ≡ bad 12)
    × (import_lock 100 (lock (pos 1) (pos 9223372036854775807) (negsuc 9223372036854775807)) ≡ bad 12)
    × (import_lock 100 (lock (pos 2) (pos 100) (pos 0)) ≡ bad 12)
    × (import_lock 100 (lock (pos 1) (pos 9223372036854775807) (pos 9223372036854775807)) ≡ bad 12)
    × (import_lock 4294967295 (lock (pos 1) (pos 4294967294) (pos 2)) ≡ bad 12)
    × (import_lock 4294967295 (lock (pos 1) (pos 4294967294) (pos 1)) ≡ taken (claim 4294967294 4294967295 1))
    -- 12 stands before 13, and 13 before 11
    × (import_lock 100 (lock (pos 3) (negsuc 0) (pos 5)) ≡ bad 12)
    × (import_lock 100 (lock (pos 3) (pos 10) (pos 91)) ≡ bad 13)
    × (import_lock 100 (lock (pos 0) (pos 10) (pos 5)) ≡ bad 13)
    × (import_lock 100 (lock (negsuc 0) (pos 10) (pos 5)) ≡ bad 13)
    × (import_lock 100 (lock (pos 1) (pos 10) (pos 91)) ≡ bad 11)
unfolding rules
worked_locks = (refl, refl, refl, refl, refl, refl, refl, refl, refl, refl, refl, refl, refl, refl, refl, refl, refl)

-- claims: 3 stands before 11, and 11 before 4
pub worked_claims :
    (export_claim 100 (claim 10 15 1) ≡ taken (lock (pos 1) (pos 10) (pos 5)))
    × (export_claim 100 (claim 10 100 2) ≡ taken (lock (pos 2) (pos 10) (pos 0)))
    × (export_claim 101 (claim 10 100 2) ≡ taken (lock (pos 2) (pos 10) (pos 90)))
    × (export_claim 100 (claim 101 101 3) ≡ bad 3)
    × (export_claim 100 (claim 10 101 3) ≡ bad 11)
    × (export_claim 100 (claim 10 100 3) ≡ bad 4)
    × (export_claim 100 (claim 10 100 0) ≡ bad 4)
unfolding rules
worked_claims = (refl, refl, refl, refl, refl, refl, refl)

-- lists: numbers behind the last record are no record and stay; the first bad record by place, whatever its number and wherever the room ends; 9 last, 3 of
-- the title first, and neither belongs to a record
pub worked_lists :
    (import_locks 100 (pos 1 ∷ pos 10 ∷ pos 5 ∷ pos 2 ∷ pos 9 ∷ []) (7 ∷ 7 ∷ 7 ∷ 7 ∷ []) ≡ listed (moved 0 0) (10 ∷ 15 ∷ 1 ∷ 7 ∷ []))
    × (import_locks 100 [] [] ≡ listed (moved 0 0) [])
    × (import_locks 100 (pos 1 ∷ pos 10 ∷ pos 5 ∷ pos 3 ∷ pos 10 ∷ pos 5 ∷ pos 1 ∷ negsuc 0 ∷ pos 5 ∷ []) (7 ∷ 7 ∷ 7 ∷ []) ≡ listed (moved 13 1) (7 ∷ 7 ∷ 7 ∷ []))
    × (import_locks 100 (pos 1 ∷ pos 10 ∷ pos 5 ∷ []) (7 ∷ 7 ∷ []) ≡ listed (moved 9 0) (7 ∷ 7 ∷ []))
    × (import_locks 0 (pos 3 ∷ pos 10 ∷ pos 5 ∷ []) [] ≡ listed (moved 3 0) [])
    × (export_claims 100 (10 ∷ 15 ∷ 1 ∷ 10 ∷ 100 ∷ 2 ∷ []) (pos 7 ∷ pos 7 ∷ pos 7 ∷ pos 7 ∷ pos 7 ∷ pos 7 ∷ pos 7 ∷ [])
    ≡ listed (moved 0 0) (pos 1 ∷ pos 10 ∷ pos 5 ∷ pos 2 ∷ pos 10 ∷ pos 0 ∷ pos 7 ∷ []))
    × (export_claims 100 (10 ∷ 15 ∷ 1 ∷ 10 ∷ 10 ∷ 1 ∷ 10 ∷ 101 ∷ 1 ∷ []) [] ≡ listed (moved 3 1) [])
    × (export_claims 0 [] [] ≡ listed (moved 3 0) [])
unfolding rules
worked_lists = (refl, refl, refl, refl, refl, refl, refl, refl)
