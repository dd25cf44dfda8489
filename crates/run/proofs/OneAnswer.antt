-- Run's promise settles its count, its refusal and both tables, for either profile: two results that meet it on the same arguments are equal. It is the
-- promise itself that is cited, as the checker reads it from the source.
use denote.RattleType.{RattleType}
use denote.Param.Laws.{Laws}
use mir.Syntax.{Dict}
use Rattle.rules.specs.declared.Profile.{Ghosts}
use Rattle.rules.proofs.Laws.OneAnswer as law
use Rattle.rules.proofs.Laws.OneAnswer.{Settles, both, their_words}
use Rattle.run.proofs.run.Reads as run
use Rattle.run.proofs.run.Kinds as kinds

module _ (P : RattleType) (laws : Laws P) (profile : Ghosts P.Denot) (code : Dict) where
  pub one_run : Settles (kinds.ps P laws) (kinds.r P laws) (run.Post P laws profile code) (λ κs s. both s.0.now s.1.0.now)
  one_run κs args a b s t p q = their_words (law.one_run _ a b _ _ p q)
