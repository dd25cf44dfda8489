-- The board's promise settles its answer and every number of the board, for either profile: two results that meet it on the same arguments are equal. It is
-- the promise itself that is cited, as the checker reads it from the source.
use denote.RattleType.{RattleType}
use denote.Param.Laws.{Laws}
use mir.Syntax.{Dict}
use Rattle.rules.specs.declared.Profile.{Ghosts}
use Rattle.rules.proofs.Laws.OneAnswer as law
use Rattle.board.proofs.board.Reads as board
use Rattle.board.proofs.board.Kinds as kinds

module _ (P : RattleType) (laws : Laws P) (profile : Ghosts P.Denot) (code : Dict) where
  pub one_board : law.Settles (kinds.ps P laws) (kinds.r P laws) (board.Post P laws profile code) (λ κs s. s.1.1.0.now)
  one_board κs args a b s t = law.one_board _ a b _ _
