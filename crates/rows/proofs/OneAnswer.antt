-- The promises settle the answer and every row of the board, for either profile: two results that meet one on the same arguments are equal. It is the promise
-- itself that is cited, as the checker reads it from the source.
use denote.RattleType.{RattleType}
use denote.Param.Laws.{Laws}
use mir.Syntax.{Dict}
use Rattle.rules.specs.declared.Profile.{Ghosts}
use Rattle.rules.proofs.Laws.OneAnswer as law
use Rattle.rows.proofs.show.Reads as show
use Rattle.rows.proofs.show.Kinds as show_kinds
use Rattle.rows.proofs.show_all.Reads as show_all
use Rattle.rows.proofs.show_all.Kinds as kinds

module _ (P : RattleType) (laws : Laws P) (profile : Ghosts P.Denot) (code : Dict) where
  pub one_board : law.Settles (show_kinds.ps P laws) (show_kinds.r P laws) (show.Post P laws profile code) (λ κs s. s.0.now)
  one_board κs args a b s t = law.one_board _ a b _ _

  -- the board by value
  pub one_board_by_value : law.SettlesAnswer (kinds.ps P laws) (kinds.r P laws) (show_all.Post P laws profile code)
  one_board_by_value κs args a b s t p q =
      let e = law.one_board _ a.reply b.reply a.rows b.rows p q in
      λ i. record { rows = e.1 i; reply = e.0 i }
