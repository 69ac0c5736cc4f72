-- `compare::found::list_all` meets its contract: with room for them all are listed, and otherwise none. Assumes nothing.
use native.Mathlib.Omega.{arith}
use Rattle.compare.proofs.theorems.Gathering.{all_listed, none_listed, listed_again}
use Rattle.compare.proofs.found.list_all.Goals as goal

pub returns-then-first-second : goal.returns-then-first-second
returns-then-first-second c =
    let found = c.merge.ensures in
    let one = c.args.first.tabled in
    let two = c.args.second.tabled in
    all_listed found (omega (arith, c.if-first-second.true, found.few, one.sized, two.sized))

pub returns-then-room-count : goal.returns-then-room-count
returns-then-room-count c =
    let found = c.merge-count.ensures in
    let one = c.args.first.tabled in
    let two = c.args.second.tabled in
    none_listed 65536 found (omega (arith, c.if-room-count.true)) (omega (arith, found.few, one.sized, two.sized, one.few, two.few))

pub returns : goal.returns
returns c =
    let tried = c.merge-count.ensures in
    let one = c.args.first.tabled in
    let two = c.args.second.tabled in
    listed_again 65536 tried (omega (arith, tried.few, one.sized, two.sized, one.few, two.few)) (omega (arith, c.if-room-count.false)) c.merge-2.ensures
