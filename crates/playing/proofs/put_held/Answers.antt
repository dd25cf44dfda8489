-- `playing::put_held` meets its contract.
use Rattle.playing.proofs.Holding.{text_none, text_held}
use Rattle.playing.proofs.put_held.Goals as goal

pub returns-then-holds-clause-is_printed : goal.returns-then-holds-clause-is_printed
returns-then-holds-clause-is_printed c = search text_held

pub returns-else-holds-clause-is_printed : goal.returns-else-holds-clause-is_printed
returns-else-holds-clause-is_printed c = search text_none
