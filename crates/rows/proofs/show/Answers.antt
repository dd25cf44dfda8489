-- `rows::show` meets its promise.
use borrow.Author.Rules.{rules}
use Rattle.rows.proofs.Filling.{shown_damaged, long_enough, too_short, holders_shown}
use Rattle.rows.proofs.show.Goals as goal

pub returns-then-not-is_sound : goal.returns-then-not-is_sound
returns-then-not-is_sound g c = search (shown_damaged, rules)

pub returns : goal.returns
returns g c = search (holders_shown, rules)

pub returns-then-rows-count : goal.returns-then-rows-count
returns-then-rows-count g c = search (too_short, rules)

pub fill-requires : goal.fill-requires
fill-requires g c = search (long_enough, rules)
