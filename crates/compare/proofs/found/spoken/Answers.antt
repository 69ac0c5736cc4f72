-- `compare::found::spoken` meets its contract: the numbers of the entry are read back. Assumes nothing.
use native.Mathlib.Omega.{arith}
use Rattle.compare.proofs.theorems.ReadNumbers.{four_numbers, in_second, in_first, row_read, spoken_second, spoken_first}
use Rattle.compare.proofs.found.spoken.Goals as goal
use Rattle.compare.proofs.found.spoken.Goals.{Start}

pub bounds-list-0 : goal.bounds-list-0
bounds-list-0 c = let l = c.requires in omega (arith, four_numbers l.later _ l.change l.numbers)

pub bounds-list-2 : goal.bounds-list-2
bounds-list-2 c = let l = c.requires in omega (arith, four_numbers l.later _ l.change l.numbers)

pub overflow_cast-list : goal.overflow_cast-list
overflow_cast-list c = let r = in_second c.requires c.if-list.true in rw (row_read r) (tt, omega (arith, r.few))

pub part_of-requires : goal.part_of-requires
part_of-requires c = let r = in_second c.requires c.if-list.true in rw (row_read r) r.there

pub returns-then-list : goal.returns-then-list
returns-then-list c = let start = (goal.at.returns-then-list c).Start in spoken_second start.requires c.if-list.true c.part_of.ensures

pub bounds-list-1 : goal.bounds-list-1
bounds-list-1 c = let l = c.requires in omega (arith, four_numbers l.later _ l.change l.numbers)

pub overflow_cast-list-2 : goal.overflow_cast-list-2
overflow_cast-list-2 c = let r = in_first c.requires c.if-list.false in rw (row_read r) (tt, omega (arith, r.few))

pub part_of-requires-2 : goal.part_of-requires-2
part_of-requires-2 c = let r = in_first c.requires c.if-list.false in rw (row_read r) r.there

pub returns : goal.returns
returns c = let start = (goal.at.returns c).Start in spoken_first start.requires c.if-list.false c.part_of-2.ensures
