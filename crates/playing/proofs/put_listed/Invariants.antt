-- `playing::put_listed` meets its contract. The loop's invariant: the nodes still to be listed, on the page so far, give the whole.
use Rattle.std.proofs.Common.{◌≡◌, ◌+◌, ◌-◌, ◌*◌, ◌≤◌}
use Rattle.rules.specs.Reach.{nodes_from}
use Rattle.rules.specs.Play.{numbers_text}
use Rattle.text.specs.Page.{page_of, puts}
use Rattle.playing.proofs.put_listed.Given as goal

abbrev pub invariant-loop : goal.invariant-loop
invariant-loop l = record {
  same_buffer : l.page.out.ghost_name ≡ l.initial.page.out.ghost_name;
  short : l.page.at ≤ l.initial.page.at + 11 * l.counter;
  rest :
      puts (page_of l.page) (numbers_text (nodes_from (l.left - l.counter) l.tables l.a))
      ≡ puts (page_of l.initial.page) (numbers_text (nodes_from l.left l.tables l.from));
}
