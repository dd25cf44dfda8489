-- `playing::play_calls` meets its contract. The loop's invariant: the calls still to be made, on the tables and the page so far, give the
-- whole; and no line is longer than 43 bytes.
use Rattle.std.proofs.Common.{◌≡◌, ◌+◌, ◌*◌, ◌≤◌, false, drop, map}
use Rattle.rules.specs.Tables.{tables}
use Rattle.rules.specs.Play.{call_of, after_all, trace, turns_text}
use Rattle.text.specs.Page.{page_of, puts}
use Rattle.playing.proofs.play_calls.Given as goal

abbrev pub invariant-loop-i : goal.invariant-loop-i
invariant-loop-i l = record {
  same_buffer : l.page.out.ghost_name ≡ l.initial.page.out.ghost_name;
  short : l.page.at ≤ l.initial.page.at + 43 * l.i;
  made : after_all (tables false l.nodes l.seats) (map call_of (drop l.i l.lines)) ≡ after_all (tables false l.initial.nodes l.initial.seats) (map call_of l.lines);
  told :
      puts (page_of l.page) (turns_text (l.i + 1) (trace (tables false l.nodes l.seats) (map call_of (drop l.i l.lines))))
      ≡ puts (page_of l.initial.page) (turns_text 1 (trace (tables false l.initial.nodes l.initial.seats) (map call_of l.lines)));
}
