-- `time::calendar::days_before_month` meets its contract: the table has the days before each month of a common year. Assumes nothing.
use mathlib.Core.Bool.{true, false}
use native.Mathlib.Omega.{arith}
use Rattle.time.proofs.theorems.Days.{months_tabled}
use Rattle.time.proofs.calendar.days_before_month.Goals as goal

pub returns-then-leap-month : goal.returns-then-leap-month
returns-then-leap-month c =
    let a = c.args in
    rw c.from-days.ensures (months_tabled a.year a.month _ true c.requires c.leap.ensures c.if-leap-month.true)

pub returns : goal.returns
returns c =
    let a = c.args in
    omega (arith, c.from-days.ensures, months_tabled a.year a.month _ false c.requires c.leap.ensures c.if-leap-month.false)
