-- `compare::found::find_one` meets its contract: there is no such entry, or its part is found. Assumes nothing.
use native.Mathlib.Omega.{arith}
use Rattle.compare.proofs.theorems.Gathering.{one_past, begins, one_found}
use Rattle.compare.proofs.found.find_one.Goals as goal

pub returns-then-count-entry : goal.returns-then-count-entry
returns-then-count-entry c = one_past c.merge-count.ensures c.if-count-entry.true

pub spoken-requires : goal.spoken-requires
spoken-requires c =
    let a = c.args in
    begins a.first.tabled a.second.tabled c.merge-count.ensures (omega (arith, c.if-count-entry.false)) c.requires

pub returns : goal.returns
returns c =
    let a = c.args in
    one_found a.first.tabled a.second.tabled c.merge-count.ensures (omega (arith, c.if-count-entry.false)) c.requires c.spoken.ensures
