-- `claims::step` meets its promise.
use Rattle.shape.proofs.Tests.{now_sound}
use Rattle.claims.proofs.Ways.{step_damaged}
use Rattle.claims.proofs.step.Goals as goal

pub step_and_answer-requires : goal.step_and_answer-requires
step_and_answer-requires g c = search now_sound

pub returns : goal.returns
returns g c = search step_damaged
