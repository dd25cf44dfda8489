-- The words in which request (vii) of 02 is proved: a node is reserved when the worker connects. proofs/Reserved.antt says with them what reserve and
-- enter leave, and what is known of a reserved claim until it enters.
use Rattle.std.specs.Prelude.{ℕ, ◌≡◌}
use Rattle.rules.specs.Tables.{Tables, mark, next, head, phase, own, prev, cur}
use Rattle.rules.specs.Comparison.{Claim, claim_of}

-- the seat has node n for claim c and has not entered: nothing hangs on the node, and the seat stands nowhere
pub record HasReserved (t : Tables) (s n : ℕ) (c : Claim) : Type 0 where
  pub in_phase_7 : phase t s ≡ 7
  pub owns : own t s ≡ n
  pub no_prev : prev t s ≡ 0
  pub no_cur : cur t s ≡ 0
  pub is_claim : claim_of t n ≡ c
  pub unmarked : mark t n ≡ 0
  pub no_next : next t n ≡ 0

-- from t to u the seat has entered: it stands at the head, with its node, and every word of the nodes is as it was
pub record HasEntered (t u : Tables) (s : ℕ) : Type 0 where
  pub same_nodes : u.nodes ≡ t.nodes
  pub in_phase_1 : phase u s ≡ 1
  pub same_own : own u s ≡ own t s
  pub no_prev : prev u s ≡ 0
  pub at_head : cur u s ≡ head t
