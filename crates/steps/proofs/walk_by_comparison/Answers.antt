-- `steps::walk_by_comparison` meets its promise.
use Rattle.steps.proofs.Arms.{walk_clash, walk_before, walk_after}
use Rattle.steps.proofs.walk_by_comparison.Goals as goal

pub returns-then-way-eq0 : goal.returns-then-way-eq0
returns-then-way-eq0 g c = search walk_clash

pub returns-then-way-lt0 : goal.returns-then-way-lt0
returns-then-way-lt0 g c = search walk_before

pub returns : goal.returns
returns g c = search walk_after
