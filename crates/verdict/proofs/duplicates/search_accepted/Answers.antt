-- `verdict::duplicates::search_accepted` meets its contract: with the most room a try always answers. Assumes nothing.
use Rattle.std.proofs.Common.{rules}
use Rattle.der.proofs.Laws.{octets_each}
use Rattle.verdict.proofs.theorems.duplicates.Collecting.{room_enough}
use Rattle.verdict.proofs.duplicates.search_accepted.Goals as goal

pub unwrap-requires : goal.unwrap-requires
unwrap-requires c =
    let s = c.args.bytes.now in
    let enough = room_enough s (octets_each s (λ i. (c.type_inv.bytes i).fits)) c.requires in
    search (rules, enough)
