-- `run::run` meets its promise.
use Rattle.shape.proofs.Tests.{now_sound}
use Rattle.run.proofs.Counting.{run_sound, run_damaged}
use Rattle.run.proofs.run.Goals as goal

pub run_steps-requires : goal.run_steps-requires
run_steps-requires g c = search now_sound

pub returns-then-is_sound : goal.returns-then-is_sound
returns-then-is_sound g c = search run_sound

pub returns : goal.returns
returns g c = search run_damaged
