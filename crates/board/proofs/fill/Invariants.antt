-- `board::fill` meets its promise.
use Rattle.board.proofs.Rows.{Filling}
use Rattle.board.proofs.fill.Given as goal

abbrev pub invariant-loop-s : goal.invariant-loop-s
invariant-loop-s g l = Filling l.tables l.initial.out l.out l.rows l.s
