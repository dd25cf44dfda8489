-- `playing::play_script` meets its contract: the parts lent are the fresh tables of N nodes and S seats.
use Rattle.playing.proofs.Whole.{lent_reached, script_played}
use Rattle.playing.proofs.play_script.Goals as goal

pub play_tables-requires-clause-reached : goal.play_tables-requires-clause-reached
play_tables-requires-clause-reached c = search lent_reached

pub returns-clause-is_printed : goal.returns-clause-is_printed
returns-clause-is_printed c = search script_played
