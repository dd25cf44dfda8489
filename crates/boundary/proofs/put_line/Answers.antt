-- `boundary::put_line` meets its promise.
use Rattle.boundary.specs.Encoded.{put_line}
use lib.ListN.{length-set}
use native.Mathlib.Omega.{arith}
use borrow.Author.Rules.{rules}
use Rattle.boundary.proofs.put_line.Goals as goal

pub bounds-numbers-at-2 : goal.bounds-numbers-at-2
bounds-numbers-at-2 c = simp length-set (omega arith)

pub bounds-numbers-at-3 : goal.bounds-numbers-at-3
bounds-numbers-at-3 c = simp length-set (omega arith)

pub bounds-numbers-at-4 : goal.bounds-numbers-at-4
bounds-numbers-at-4 c = simp length-set (omega arith)

pub bounds-numbers-at-5 : goal.bounds-numbers-at-5
bounds-numbers-at-5 c = simp length-set (omega arith)

pub returns : goal.returns
unfolding put_line
returns c = search rules
