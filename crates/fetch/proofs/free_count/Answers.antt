-- `fetch::free_count` meets its promise.
use Rattle.std.proofs.Common.{rules}
use Rattle.fetch.proofs.Ways.{count_read}
use Rattle.fetch.proofs.free_count.Goals as goal

pub returns : goal.returns
returns g c = search (count_read, rules)
