-- `shape::Nodes::ordinary_sound` meets its promise.
use Rattle.std.proofs.Common.{◌≡◌, true, false}
use Rattle.shape.proofs.Tests.{lacks, has_3, has_4, has_other}
use Rattle.shape.proofs.Nodes.ordinary_sound.Goals as goal

pub returns-then-SHEET : goal.returns-then-SHEET
returns-then-SHEET g c = let on_a_sheet : g.P.Profile.SHEET ≡ true = cc in search lacks

pub returns-in-3 : goal.returns-in-3
returns-in-3 g c = let ordinary : g.P.Profile.SHEET ≡ false = cc in search has_3

pub returns-in-4 : goal.returns-in-4
returns-in-4 g c = let ordinary : g.P.Profile.SHEET ≡ false = cc in search has_4

pub returns-in_default : goal.returns-in_default
returns-in_default g c = let ordinary : g.P.Profile.SHEET ≡ false = cc in search has_other
