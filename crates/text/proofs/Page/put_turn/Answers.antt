-- `Page::put_turn` meets its contract: an answer's numbers stand for what it means.
use Rattle.std.proofs.Common.{◌≡◌, rules}
use Rattle.replies.specs.Codes.{by_number}
use Rattle.replies.proofs.Codes.{answer_by_means}
use Rattle.text.proofs.Page.put_turn.Goals as goal

pub returns-clause-is_printed : goal.returns-clause-is_printed
returns-clause-is_printed c =
    let e : c.map_err.result ≡ by_number c.args.answer = search rules in
    rw (← answer_by_means c.args.answer, ← e) c.put_call.ensures.is_printed
