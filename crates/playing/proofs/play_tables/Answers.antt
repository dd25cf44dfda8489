-- `playing::play_tables` meets its contract.
use Rattle.std.proofs.Common.{rules}
use Rattle.rules.specs.Play.{calls_of}
use Rattle.playing.proofs.Whole.{tables_played, played_sound, played_short}
use Rattle.playing.proofs.play_tables.Goals as goal

pub tables-requires : goal.tables-requires
tables-requires c = played_sound _ _ _ c.play_calls.ensures.are_made c.requires.reached

pub returns-clause-is_printed : goal.returns-clause-is_printed
unfolding calls_of
returns-clause-is_printed c =
    tables_played _ _ c.args.script.now _ _ _ c.play_calls.ensures.are_made c.play_calls.ensures.is_printed (rw c.tables.ensures at c.put_end.ensures.is_printed)

pub returns-clause-at_most : goal.returns-clause-at_most
returns-clause-at_most c =
    let s = played_sound _ _ _ c.play_calls.ensures.are_made c.requires.reached in
    played_short _ s _ _ _ _ (rw c.tables.ensures at c.put_end.ensures.at_most) c.play_calls.ensures.at_most (search rules)
