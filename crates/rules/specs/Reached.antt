-- Which tables can be reached: "tables cleared once and changed only by these calls".
use Rattle.std.specs.Prelude.{ℕ, ◌≤◌, Bool, List, [], ◌∷◌}
use Rattle.rules.specs.Tables.{Tables, fresh}
use Rattle.rules.specs.Run.{run}
use Rattle.rules.specs.Play.{Call, call}

-- what may be asked of tables once they are cleared: a single call, or a run with its schedule and budget. Board and free count change none.
pub data Request : Type 0 where
  single : Call → Request
  running : List ℕ → ℕ → Request

abbrev pub after_request : Tables → Request → Tables
after_request t (single c) = (call t c).after
after_request t (running schedule budget) = (run t schedule budget).after

unfoldable pub after_requests : Tables → List Request → Tables
after_requests t [] = t
after_requests t (r ∷ rest) = after_requests (after_request t r) rest

-- from a clear, of either profile and with any title, any requests in any order, with any numbers; a refused one leaves the tables as found
pub data Reached (N S : ℕ) : Tables → Type 0 where
  cleared : 1 ≤ N → N ≤ 256 → 1 ≤ S → S ≤ 64 → (sheet : Bool) {frames : ℕ} → 1 ≤ frames → Reached N S (fresh sheet N S frames)
  asked : {t : Tables} → Reached N S t → (r : Request) → Reached N S (after_request t r)
