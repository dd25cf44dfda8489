-- `board::board` meets its promise.
use borrow.Author.Rules.{rules}
use Rattle.board.proofs.Rows.{shown_damaged, too_short, holders_shown}
use Rattle.board.proofs.board.Goals as goal

pub returns-then-not-is_sound : goal.returns-then-not-is_sound
returns-then-not-is_sound g c = search (shown_damaged, rules)

pub returns-then-not-has_room : goal.returns-then-not-has_room
returns-then-not-has_room g c = search (too_short, rules)

pub returns : goal.returns
returns g c = search (holders_shown, rules)
