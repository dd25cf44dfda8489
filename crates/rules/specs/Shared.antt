-- The words in which request (v) of 02 is proved: which frames clash. proofs/Shared.antt says with them that the pair of a `wait` is the whole of
-- what both claims cover.
use Rattle.std.specs.Prelude.{ℕ, ◌≤◌, ◌<◌, ◌≡◌, ◌⊎◌}
use Rattle.rules.specs.Comparison.{Claim, shared}
use Rattle.rules.specs.Apart.{Covers}

-- "the whole of what both claims cover": a frame is one from first up to but not including end exactly if both claims cover it
pub record WholeShared (c o : Claim) (first end : ℕ) : Type 0 where
  pub covered_by_both : (frame : ℕ) → first ≤ frame → frame < end → Covers c frame × Covers o frame
  pub no_other : (frame : ℕ) → Covers c frame → Covers o frame → (first ≤ frame) × (frame < end)

-- no frame is covered by both
abbrev pub NoneShared : Claim → Claim → Type 0
NoneShared c o = (frame : ℕ) → Covers c frame → Covers o frame → ⊥

-- what they share is some frame, and one of the two writes
pub record Clash (c o : Claim) : Type 0 where
  pub some_frame : (shared c o).first < (shared c o).end
  pub one_writes : (c.kind ≡ 2) ⊎ (o.kind ≡ 2)
