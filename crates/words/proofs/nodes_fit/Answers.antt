-- `words::nodes_fit` meets its promise.
use native.Mathlib.Omega.{arith}
use Rattle.words.proofs.Places.{nodes_within, nodes_fit_is}
use Rattle.words.proofs.nodes_fit.Goals as goal

pub overflow_mul-result : goal.overflow_mul-result
overflow_mul-result g c = omega (arith, nodes_within _ _ _ c.node_count-n.ensures)

pub overflow_add-result : goal.overflow_add-result
overflow_add-result g c = omega (arith, nodes_within _ _ _ c.node_count-n.ensures)

pub returns : goal.returns
returns g c = search nodes_fit_is
