-- `nodesets::NodeSet::count` meets its promise: the chain gives the ones of each word.
use native.Mathlib.Omega.{arith}
use borrow.Author.Rules.{rules}
use mathlib.Core.Path.{◌∙◌}
use lib.Count.{ones}
use Rattle.std.proofs.lemmas.Iterator.{YieldsList-from_slice, YieldsList-from_map}
use Rattle.std.proofs.lemmas.Iterator.Consumers.{YieldsList-at, sum_by_from_yields_List, fits_by_from_yields_list}
use Rattle.nodesets.proofs.Set.{members_ones, members_few}
use Rattle.nodesets.proofs.NodeSet.count.Goals as goal

pub sum-requires-clause-fits : goal.sum-requires-clause-fits
sum-requires-clause-fits c =
    let all = members_ones c.self.inside.words (search rules) (λ i. search rules) in
    let few = members_few c.self.inside.words in
    fits_by_from_yields_list ones c.self.inside.words c.map.result 4294967296
    (YieldsList-from_map _ ones (YieldsList-at c.map.ensures.source (YieldsList-from_slice c.self.inside.words (cc))) c.map.ensures.closure (λ x r q k. search rules))
    (omega arith)

pub returns : goal.returns
returns c =
    rw (← c.self.view_is)
    (sum_by_from_yields_List ones c.self.inside.words c.map.result c.sum.result c.sum.ensures.ran
    (YieldsList-from_map _ ones (YieldsList-at c.map.ensures.source (YieldsList-from_slice c.self.inside.words (cc))) c.map.ensures.closure (λ x r q k. search rules))
    ∙ members_ones c.self.inside.words (search rules) (λ i. search rules))
