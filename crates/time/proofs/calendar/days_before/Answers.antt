-- `time::calendar::days_before` meets its contract: it adds up what the others count. Assumes nothing.
use native.Mathlib.Omega.{arith}
use Rattle.time.proofs.theorems.Days.{years_few, months_few}
use Rattle.time.proofs.calendar.days_before.Goals as goal

pub overflow_add-result : goal.overflow_add-result
overflow_add-result c =
    let a = c.args in
    omega (arith, c.days_before_month.ensures, c.days_before_year.ensures, years_few a.year c.requires.0, months_few a.year a.month c.requires.1)

pub overflow_add-result-2 : goal.overflow_add-result-2
overflow_add-result-2 c =
    let a = c.args in
    omega (arith, c.days_before_month.ensures, c.days_before_year.ensures, years_few a.year c.requires.0, months_few a.year a.month c.requires.1)

pub returns : goal.returns
returns c =
    let a = c.args in
    (rw (c.days_before_month.ensures, c.days_before_year.ensures), omega (arith, c.days_before_month.ensures, c.days_before_year.ensures, years_few a.year c.requires.0, months_few a.year a.month c.requires.1))
