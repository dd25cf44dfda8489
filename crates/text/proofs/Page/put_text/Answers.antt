-- `Page::put_text` meets its contract.
use Rattle.std.proofs.Common.{◌∙◌}
use Rattle.text.proofs.Pages.{text_again, text_done}
use Rattle.text.proofs.Page.put_text.Goals as goal

pub loop-b-preserved : goal.loop-b-preserved
loop-b-preserved c = record {
  same_buffer = c.put_byte.ensures.same_buffer ∙ c.loop-b.invariant.same_buffer;
  rest = text_again _ _ _ _ _ c.put_byte.ensures.is_printed c.loop-b-test.true c.loop-b.invariant.rest;
}

pub returns : goal.returns
returns c = record { same_buffer = c.loop-b.invariant.same_buffer; is_printed = text_done _ _ _ _ c.loop-b-test.false c.loop-b.invariant.rest }
