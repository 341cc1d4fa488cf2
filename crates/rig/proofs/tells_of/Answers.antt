-- `rig::tells_of` meets its contract: its stores are those of the law. Assumes nothing.
use Rattle.rig.proofs.Telling.{tells_made}
use Rattle.rig.proofs.tells_of.Goals as goal

pub returns : goal.returns
returns c =
    tells_made c.args.played.now c.unfinished_flight-unfinished.result _ _ _ _ _ _ _ _ _ _ _ _ _ _ _ _
    c.unfinished_flight-unfinished.ensures c.from.ensures c.from-2.ensures c.is_some.ensures c.from-3.ensures c.is_some-2.ensures
    c.from-4.ensures c.unwrap_or.ensures c.unwrap_or-2.ensures c.put_bytes.ensures c.put.ensures c.put-2.ensures
    c.put-3.ensures c.put-4.ensures c.put-5.ensures c.put-6.ensures c.put-7.ensures
