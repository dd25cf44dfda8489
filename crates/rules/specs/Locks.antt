-- Locks from the archive's file system, 02 (vi): advisory record locks of POSIX as claims, and claims as such locks. The numbers of a lock are integers,
-- and so are their sums: "exact for every signed 64-bit start and length", and no case is made of one that 64 bits would not hold.
use Rattle.std.specs.Prelude.{ℕ, zero, suc, ◌+◌, ◌-◌, ◌*◌, ◌/◌, Bool, false, not, ◌||◌, List, [], ◌∷◌, ◌++◌, ℤ, pos, negsuc, nat_abs, ◌+ℤ◌, ◌-ℤ◌, length, drop, if◌then◌else◌}
use Rattle.std.specs.Int.Signed.{lt_z, le_z}
use Rattle.rules.specs.Notation.{◌is◌, ◌≤?◌, ◌<?◌}
use Rattle.rules.specs.Comparison.{Claim, claim}
use Rattle.rules.specs.Shape.{is_kind}
use Rattle.rules.specs.Answers.{◌when◌, unless}
use Rattle.rules.specs.declared.Moved.{Moved}

-- ---- one lock

-- "type (1 read, 2 write), start and signed length from the beginning of the file, as POSIX describes for `struct flock`"
pub record Lock : Type 0 where
  pub type : ℤ
  pub start : ℤ
  pub length : ℤ

abbrev pub lock : ℤ → ℤ → ℤ → Lock
lock type start length = record { type = type; start = start; length = length }

-- one of three, by a length that is negative, 0 or positive
abbrev pub by_sign : {A : Type 0} → ℤ → A → A → A → A
by_sign (negsuc n) negative none positive = negative
by_sign (pos zero) negative none positive = none
by_sign (pos (suc n)) negative none positive = positive

-- "Positive length covers start to start + length − 1; negative covers start + length to start − 1; 0, open-ended in POSIX, here reaches to the
-- title's end"
unfoldable pub first_frame : Lock → ℤ
first_frame l = by_sign l.length (l.start +ℤ l.length) l.start l.start

unfoldable pub last_frame : ℕ → Lock → ℤ
last_frame title l = by_sign l.length (l.start -ℤ pos 1) (pos title -ℤ pos 1) (l.start +ℤ l.length -ℤ pos 1)

-- "A claim covers frames start up to but not including end"
abbrev pub end_frame : ℕ → Lock → ℤ
end_frame title l = last_frame title l +ℤ pos 1

-- "12 (the run starts below 0, is empty, or its end is past 4,294,967,295)"
unfoldable pub no_run : ℤ → ℤ → Bool
no_run first end = lt_z first (pos 0) || le_z end first || lt_z (pos 4294967295) end

-- "13 (unknown type)"
abbrev pub is_type : ℤ → Bool
is_type (pos n) = is_kind n
is_type (negsuc n) = false

-- ---- one record

-- it is taken for what it is moved to, or it is bad, by the number of its refusal
pub data Taken (A : Type 0) : Type 0 where
  taken : A → Taken A
  bad : ℕ → Taken A

-- "Import gives begin's numbers", which are reserve's since (vii); "import 12 .., 13 .., 11"
unfoldable pub import_lock : ℕ → Lock → Taken Claim
import_lock title l =
    unless bad
    ((12 when no_run (first_frame l) (end_frame title l))
    ∷ (13 when not (is_type l.type))
    ∷ (11 when lt_z (pos title) (end_frame title l))
    ∷ [])
    (taken (claim (nat_abs (first_frame l)) (nat_abs (end_frame title l)) (nat_abs l.type)))

-- "export gives back positive lengths, and 0 exactly where the claim ends at the title's end"
abbrev pub length_of : ℕ → Claim → ℤ
length_of title c = if c.end is title then pos 0 else pos (c.end - c.start)

abbrev pub lock_of : ℕ → Claim → Lock
lock_of title c = lock (pos c.kind) (pos c.start) (length_of title c)

-- "export 3, 11, 4"
unfoldable pub export_claim : ℕ → Claim → Taken Lock
export_claim title c =
    unless bad
    ((3 when c.end ≤? c.start)
    ∷ (11 when title <? c.end)
    ∷ (4 when not (is_kind c.kind))
    ∷ [])
    (taken (lock_of title c))

-- ---- several: "A call over several records .. refuses all of them for the first bad one and gives its place from 0."
pub data All (A : Type 0) : Type 0 where
  all : List A → All A
  first_bad : ℕ → ℕ → All A

abbrev pub behind : {A : Type 0} → A → All A → All A
behind a (all rest) = all (a ∷ rest)
behind a (first_bad number place) = first_bad number (place + 1)

abbrev pub and_then : {A : Type 0} → Taken A → All A → All A
and_then (taken a) rest = behind a rest
and_then (bad number) rest = first_bad number 0

unfoldable pub each : {A B : Type 0} → (A → Taken B) → List A → All B
each move [] = all []
each move (a ∷ rest) = and_then (move a) (each move rest)

-- ---- lists as they are lent: three numbers to a record. One or two numbers behind the last record are no record, and no room for one
abbrev pub record_width : ℕ
record_width = 3

unfoldable pub in_threes : {A B : Type 0} → (A → A → A → B) → List A → List B
in_threes make [] = []
in_threes make (a ∷ []) = []
in_threes make (a ∷ b ∷ []) = []
in_threes make (a ∷ b ∷ c ∷ more) = make a b c ∷ in_threes make more

unfoldable pub threes : {A B : Type 0} → (B → A) → (B → A) → (B → A) → List B → List A
threes first second third [] = []
threes first second third (r ∷ more) = first r ∷ second r ∷ third r ∷ threes first second third more

abbrev pub locks_in : List ℤ → List Lock
locks_in = in_threes lock

abbrev pub lock_numbers : List Lock → List ℤ
lock_numbers = threes (λ l. l.type) (λ l. l.start) (λ l. l.length)

abbrev pub claims_in : List ℕ → List Claim
claims_in = in_threes claim

abbrev pub claim_numbers : List Claim → List ℕ
claim_numbers = threes (λ c. c.start) (λ c. c.end) (λ c. c.kind)

-- ---- the two calls

-- the refusal or 0 with the place of the bad record, and the output list after the call
pub record Listed (A : Type 0) : Type 0 where
  pub answer : Moved
  pub after : List A

abbrev pub listed : {A : Type 0} → Moved → List A → Listed A
listed answer after = record { answer = answer; after = after }

abbrev pub moved : ℕ → ℕ → Moved
moved refusal place = record { refusal = refusal; place = place }

-- "last 9, output list too short"; numbers behind the last record stay
abbrev pub written : {A B : Type 0} → (List A → List B) → All A → List B → Listed B
written numbers (first_bad number place) lent = listed (moved number place) lent
written numbers (all records) lent =
    if length lent / record_width <? length records then listed (moved 9 0) lent
    else listed (moved 0 0) (numbers records ++ drop (record_width * length records) lent)

-- "3 if the title's count is 0", whatever the records. This refusal and 9 belong to no record, and come with the place 0
abbrev pub move_all : {A B C : Type 0} → ℕ → (A → Taken B) → (List B → List C) → List A → List C → Listed C
move_all title move numbers records lent =
    if title is 0 then listed (moved 3 0) lent
    else written numbers (each move records) lent

unfoldable pub import_locks : ℕ → List ℤ → List ℕ → Listed ℕ
import_locks title locks = move_all title (import_lock title) claim_numbers (locks_in locks)

unfoldable pub export_claims : ℕ → List ℕ → List ℤ → Listed ℤ
export_claims title claims = move_all title (export_claim title) lock_numbers (claims_in claims)
