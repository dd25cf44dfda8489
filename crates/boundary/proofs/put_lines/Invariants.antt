-- `boundary::put_lines` meets its promise.
use Rattle.std.proofs.Common.{◌≡◌, length}
use Rattle.boundary.specs.Encoded.{lines_after}
use Rattle.boundary.proofs.put_lines.Given as goal

abbrev pub invariant-loop-i : goal.invariant-loop-i
invariant-loop-i l = (length l.numbers ≡ length l.initial.numbers) × (l.numbers ≡ lines_after l.i l.initial.numbers l.rows)
