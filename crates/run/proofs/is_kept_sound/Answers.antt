-- `run::is_kept_sound` meets its promise.
use Rattle.run.proofs.Counting.{kept_linked, kept_other}
use Rattle.run.proofs.is_kept_sound.Goals as goal

pub returns-then-before-after : goal.returns-then-before-after
returns-then-before-after g c = search kept_linked

pub returns : goal.returns
returns g c = search kept_other
