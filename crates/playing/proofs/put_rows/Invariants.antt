-- `playing::put_rows` meets its contract. The loop's invariant: the page has the rows of the seats passed, none longer than 49 bytes.
use Rattle.std.proofs.Common.{◌+◌, ◌*◌, ◌≤◌}
use Rattle.rules.specs.Board.{rows_below}
use Rattle.rules.specs.Play.{rows_text}
use Rattle.text.specs.Page.{Prints}
use Rattle.playing.proofs.put_rows.Given as goal

abbrev pub invariant-loop-s : goal.invariant-loop-s
invariant-loop-s l = record {
  passed : Prints l.initial.page l.page (rows_text (rows_below l.s l.tables));
  short : l.page.at ≤ l.initial.page.at + 49 * l.s;
}
