-- The words in which request (vi) of 02 is proved: which frames a lock covers, and that what is moved there and back is the same. proofs/Archive.antt
-- says it with them.
use Rattle.std.specs.Prelude.{ℕ, ◌*◌, ◌/◌, ◌≡◌, List, [], ◌∷◌, pos, length, ◌≤ℤ◌}
use Rattle.rules.specs.Comparison.{Claim}
use Rattle.rules.specs.Locks.{Lock, first_frame, last_frame, export_claim, all, each, record_width}

-- "covers": from its first frame to its last
abbrev pub LockCovers : ℕ → Lock → ℕ → Type 0
LockCovers title l frame = (first_frame l ≤ℤ pos frame) × (pos frame ≤ℤ last_frame title l)

-- "the other way the same frames": not the same numbers, for a negative length comes back positive, and one that reaches the title's end as 0
pub record SameFrames (title : ℕ) (l m : Lock) : Type 0 where
  pub same_type : l.type ≡ m.type
  pub same_first : first_frame l ≡ first_frame m
  pub same_last : last_frame title l ≡ last_frame title m

-- two lists, as long as each other, of records that are so by their places
pub data Pairwise {A : Type 0} (Alike : A → A → Type 0) : List A → List A → Type 0 where
  no_more : Pairwise Alike [] []
  and_then : {a b : A} {more others : List A} → Alike a b → Pairwise Alike more others → Pairwise Alike (a ∷ more) (b ∷ others)

-- the claims go out again, as locks that cover the frames of those which they came from
pub record OutAgain (title : ℕ) (locks : List Lock) (claims : List Claim) : Type 0 where
  pub list : List Lock
  pub are : each (export_claim title) claims ≡ all list
  pub alike : Pairwise (SameFrames title) locks list

-- how many numbers of a lent list stand in records
abbrev pub record_numbers : {A : Type 0} → List A → ℕ
record_numbers l = record_width * (length l / record_width)
