-- `script::read` meets its contract.
use Rattle.std.proofs.Common.{arith, ◌∙◌}
use Rattle.std.proofs.lemmas.Result.{err_from_is_err_and}
use Rattle.script.proofs.Reading.{or_none, or_some, read_wrong, read_bodies}
use Rattle.script.proofs.Bounds.{contents_calls}
use Rattle.script.proofs.read.Goals as goal

pub returns-in_err-top : goal.returns-in_err-top
returns-in_err-top c =
    let p = err_from_is_err_and c.from_residual.result c.from_residual.ensures.1 in
    let w = or_none _ _ _ c.in_err-top.ensures.value in
    rw (p.1, p.2, w.1) (read_wrong _ (omega arith) (w.0 ∙ c.contents_line.ensures))

pub bodies-requires : goal.bodies-requires
bodies-requires c = contents_calls _ _ (or_some _ _ _ c.in_ok-top.ensures.value ∙ c.contents_line.ensures)

pub returns : goal.returns
returns c = c.bodies.ensures ∙ read_bodies _ (omega arith) _ (or_some _ _ _ c.in_ok-top.ensures.value ∙ c.contents_line.ensures)
