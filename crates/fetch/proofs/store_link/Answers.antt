-- `fetch::store_link` meets its promise.
use Rattle.fetch.proofs.Taking.{first_stored}
use Rattle.fetch.proofs.store_link.Goals as goal

pub returns : goal.returns
returns g c =
    let z = first_stored _ _ _ _ _ c.put_link.ensures c.requires.list_ends c.requires.is_first_store in
    record { stored = z.0; left = z.1 }
