-- `script::bodies` meets its contract. The loop's invariant: what is still to be read, from the place reached and with the rows so
-- far, gives the whole.
use Rattle.rules.specs.Script.{bodies_from, no_lines}
use Rattle.std.proofs.Common.{◌≡◌, ◌-◌, length}
use Rattle.script.proofs.bodies.Given as goal

abbrev pub invariant-loop-i : goal.invariant-loop-i
invariant-loop-i l = record {
  room : length l.rows ≡ 1000;
  rest : bodies_from l.src l.top (l.top.k - l.i) l.i l.at l.rows ≡ bodies_from l.src l.top l.top.k 0 l.top.next no_lines;
}
