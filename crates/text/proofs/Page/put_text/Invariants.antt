-- `Page::put_text` meets its contract. The loop's invariant: the bytes still to be put, on the page so far, give the whole.
use Rattle.std.proofs.Common.{◌≡◌, drop}
use Rattle.text.specs.Page.{page_of, puts}
use Rattle.text.proofs.Page.put_text.Given as goal

abbrev pub invariant-loop-b : goal.invariant-loop-b
invariant-loop-b l = record {
  same_buffer : l.self.out.ghost_name ≡ l.initial.self.out.ghost_name;
  rest : puts (page_of l.self) (drop l.b-index l.text) ≡ puts (page_of l.initial.self) l.text;
}
