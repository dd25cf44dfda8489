-- `claims::clear` meets its promise. Each refusal is searched for among the laws of both, so that one out of its order is refused for the test that
-- it skips.
use Rattle.std.proofs.Common.{◌≡◌, length}
use Rattle.rules.specs.Tables.{zeros}
use Rattle.claims.proofs.Ways.{clear_not, clear_no_title, clear_fits}
use Rattle.claims.proofs.clear.Goals as goal

pub returns-then-not-fits : goal.returns-then-not-fits
returns-then-not-fits g c = search (clear_not, clear_no_title)

pub returns-then-title-eq0 : goal.returns-then-title-eq0
returns-then-title-eq0 g c = search (clear_not, clear_no_title)

pub returns : goal.returns
returns g c =
    let nodes_zeroed : c.fill.new.self ≡ zeros (length c.args.nodes.now) = c.fill.ensures.after (λ y e. e) in
    let seats_zeroed : c.fill-2.new.self ≡ zeros (length c.args.seats.now) = c.fill-2.ensures.after (λ y e. e) in
    search clear_fits
