-- What `cases::table::prepare` keeps: the numbers that the loop has passed are as beforehand. Assumes nothing.
use Rattle.cases.specs.Table.{Untouched}
use Rattle.cases.proofs.table.prepare.Given as goal

abbrev pub invariant-loop-i : goal.invariant-loop-i
invariant-loop-i l = Untouched l.table 0 l.i
