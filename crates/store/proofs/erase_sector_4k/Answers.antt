-- `store::erase_sector_4k` meets its contract. Assumes nothing.
use Rattle.std.proofs.Common.{rules}
use Rattle.store.specs.Store.{erase_stores}
use Rattle.store.proofs.Stores.{ends, sector_put}
use Rattle.store.proofs.erase_sector_4k.Goals as goal

pub returns-clause-lent : goal.returns-clause-lent
unfolding erase_stores
returns-clause-lent c =
    let blank = c.fill.ensures.after (λ y h. h) in
    search (ends, sector_put, blank, rules)
