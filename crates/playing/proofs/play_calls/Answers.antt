-- `playing::play_calls` meets its contract.
use Rattle.std.proofs.Common.{◌∙◌, arith}
use Rattle.playing.proofs.Turns.{made_again, told_again, made_all, told_all}
use Rattle.playing.proofs.play_calls.Goals as goal

pub loop-i-preserved : goal.loop-i-preserved
loop-i-preserved c = record {
  same_buffer = c.put_turn.ensures.is_printed.same_buffer ∙ c.loop-i.invariant.same_buffer;
  short = let k = c.put_turn.ensures.at_most (omega arith) in omega arith;
  made = search made_again;
  told = search told_again;
}

pub returns-clause-are_made : goal.returns-clause-are_made
returns-clause-are_made c = search made_all

pub returns-clause-is_printed : goal.returns-clause-is_printed
returns-clause-is_printed c = record { same_buffer = c.loop-i.invariant.same_buffer; is_printed = search told_all }
