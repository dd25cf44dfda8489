-- `playing::put_listed` meets its contract.
use Rattle.std.proofs.Common.{◌∙◌, arith}
use Rattle.playing.proofs.Listing.{listed_again, listed_end, listed_all}
use Rattle.playing.proofs.put_listed.Goals as goal

pub returns-then-a-eq0-clause-is_printed : goal.returns-then-a-eq0-clause-is_printed
returns-then-a-eq0-clause-is_printed c = record {
  same_buffer = c.loop.invariant.same_buffer;
  is_printed = listed_end _ _ _ _ _ c.loop.invariant.rest c.if-a-eq0.true;
}

pub loop-preserved : goal.loop-preserved
loop-preserved c = record {
  same_buffer = c.put_next.ensures.is_printed.same_buffer ∙ c.loop.invariant.same_buffer;
  short = omega arith;
  rest = listed_again _ _ _ _ _ _ _ _ c.loop.invariant.rest c.put_next.ensures.is_printed c.link-a.ensures c.if-a-eq0.false (omega arith);
}

pub returns-clause-is_printed : goal.returns-clause-is_printed
returns-clause-is_printed c = record {
  same_buffer = c.loop.invariant.same_buffer;
  is_printed = listed_all _ _ _ _ _ c.loop.invariant.rest (omega arith);
}
