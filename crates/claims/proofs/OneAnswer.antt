-- Each public call's promise settles its answer and both tables, for either profile: two results that meet it on the same arguments are equal. It is the
-- promise itself that is cited, as the checker reads it from the source.
use mathlib.Core.Path.{ap}
use denote.RattleType.{RattleType}
use denote.Param.Laws.{Laws}
use mir.Syntax.{Dict}
use Rattle.rules.specs.Tables.{Tables}
use Rattle.rules.specs.declared.Profile.{Ghosts}
use Rattle.rules.proofs.Laws.OneAnswer.{Settles, SettlesAnswer, one_done, one_reply, both, their_words, one_count}
use Rattle.claims.proofs.clear.Reads as clear
use Rattle.claims.proofs.clear.Kinds as clear_kinds
use Rattle.claims.proofs.reserve.Reads as reserve
use Rattle.claims.proofs.reserve.Kinds as reserve_kinds
use Rattle.claims.proofs.enter.Reads as enter
use Rattle.claims.proofs.enter.Kinds as enter_kinds
use Rattle.claims.proofs.step.Reads as step
use Rattle.claims.proofs.step.Kinds as step_kinds
use Rattle.claims.proofs.release.Reads as release
use Rattle.claims.proofs.release.Kinds as release_kinds
use Rattle.claims.proofs.free_count.Reads as free_count_law
use Rattle.claims.proofs.free_count.Kinds as free_count_kinds

module _ (P : RattleType) (laws : Laws P) (profile : Ghosts P.Denot) (code : Dict) where
  pub one_clear : Settles (clear_kinds.ps P laws) (clear_kinds.r P laws) (clear.Post P laws profile code) (λ κs s. both s.0.now s.1.0.now)
  one_clear κs args a b s t p q = their_words (one_done _ a b _ _ p q)

  pub one_reserve : Settles (reserve_kinds.ps P laws) (reserve_kinds.r P laws) (reserve.Post P laws profile code) (λ κs s. both s.0.now s.1.0.now)
  one_reserve κs args a b s t p q = their_words (one_reply _ a b _ _ p q)

  -- enter is lent the nodes to read only
  pub one_enter : Settles (enter_kinds.ps P laws) (enter_kinds.r P laws) (enter.Post P laws profile code) (λ κs s. s.1.0.now)
  one_enter κs args a b s t p q = let w = one_reply _ a b _ _ p q in (w.0, ap (λ (u : Tables). u.seats) w.1)

  pub one_step : Settles (step_kinds.ps P laws) (step_kinds.r P laws) (step.Post P laws profile code) (λ κs s. both s.0.now s.1.0.now)
  one_step κs args a b s t p q = their_words (one_reply _ a b _ _ p q)

  pub one_release : Settles (release_kinds.ps P laws) (release_kinds.r P laws) (release.Post P laws profile code) (λ κs s. both s.0.now s.1.0.now)
  one_release κs args a b s t p q = their_words (one_reply _ a b _ _ p q)

  -- free count changes no table
  pub one_free_count : SettlesAnswer (free_count_kinds.ps P laws) (free_count_kinds.r P laws) (free_count_law.Post P laws profile code)
  one_free_count κs args a b s t = one_count _ a b
