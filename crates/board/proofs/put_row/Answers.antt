-- `board::put_row` meets its promise.
use mathlib.Core.Path.{refl}
use Rattle.std.proofs.lemmas.Slice.{put_mid-paste}
use native.Mathlib.Omega.{arith}
use Rattle.rules.specs.Board.{numbers_of, row_width}
use Rattle.board.specs.Filling.{put_row}
use Rattle.board.proofs.put_row.Goals as goal

pub returns : goal.returns
unfolding put_row numbers_of
returns c = put_mid-paste _ _ _ _ _ row_width c.copy_from_slice.ensures.after (omega arith) refl
