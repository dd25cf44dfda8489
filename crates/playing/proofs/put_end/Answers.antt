-- `playing::put_end` meets its contract: its parts, one after another.
use Rattle.playing.proofs.Ending.{end_is}
use Rattle.playing.proofs.put_end.Goals as goal

pub returns-clause-is_printed : goal.returns-clause-is_printed
returns-clause-is_printed c = search end_is
