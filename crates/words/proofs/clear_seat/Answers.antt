-- `words::clear_seat` meets its promise.
use mathlib.Core.Path.{refl}
use borrow.Author.Rules.{rules}
use Rattle.words.proofs.Places.{clear_none, clear_more, clear_all}
use Rattle.words.proofs.clear_seat.Goals as goal

pub loop-at-init : goal.loop-at-init
loop-at-init g c = (refl, clear_none _ _ _)

pub loop-at-preserved : goal.loop-at-preserved
loop-at-preserved g c = (search rules, search clear_more)

pub returns : goal.returns
returns g c = search (clear_all, rules)
