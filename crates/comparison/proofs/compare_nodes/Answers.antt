-- `comparison::compare_nodes` meets its promise.
use Rattle.comparison.proofs.Signs.{of_words}
use Rattle.comparison.proofs.compare_nodes.Goals as goal

pub returns : goal.returns
returns g c = rw (← c.node_claim-listed.ensures, ← c.node_claim-own.ensures) (of_words _ _ _ c.compare_claims.ensures)
