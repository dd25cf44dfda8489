-- The words in which request (iii) of 02 is proved: the title has an end. proofs/Title.antt says with them that no claim ends beyond it and
-- that it never changes.
use Rattle.std.specs.Prelude.{ℕ, ◌*◌, ◌/◌, ◌≤◌, ◌<◌}
use Rattle.rules.specs.Tables.{Tables, title}
use Rattle.rules.specs.Comparison.{Claim, claim_of}
use Rattle.rules.specs.Play.{Call, reserve_call}
use Rattle.rules.specs.Refusing.{WithinTitle}

-- the title has a frame, and no node's claim ends beyond it, whether the node is listed, a seat's own or free
pub record AllWithin (t : Tables) : Type 0 where
  pub some : 1 ≤ title t
  pub within : (a : ℕ) → WithinTitle t (claim_of t a)

-- the call reserves for a claim that ends beyond the title
pub data ReservesBeyond (t : Tables) : Call → Type 0 where
  reserves_beyond : {s : ℕ} {c : Claim} → title t < c.end → ReservesBeyond t (reserve_call s c)

-- "The planners divide covered frames by title length": how many of a hundred frames are covered
abbrev pub per_cent : ℕ → ℕ → ℕ
per_cent covered title = 100 * covered / title
