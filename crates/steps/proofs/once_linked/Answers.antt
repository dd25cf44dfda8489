-- `steps::once_linked` meets its promise.
use Rattle.std.proofs.Common.{◌≡◌, true, false}
use Rattle.steps.proofs.Arms.{linked_holds, linked_validates}
use Rattle.steps.proofs.once_linked.Goals as goal

pub returns-then-SHEET : goal.returns-then-SHEET
returns-then-SHEET g c = let on_a_sheet : g.P.Profile.SHEET ≡ true = cc in search linked_holds

pub returns : goal.returns
returns g c = let ordinary : g.P.Profile.SHEET ≡ false = cc in search linked_validates
