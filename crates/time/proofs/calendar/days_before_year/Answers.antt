-- `time::calendar::days_before_year` meets its contract: it computes the formula. Assumes nothing.
use mathlib.Core.Path.{sym}
use Rattle.time.proofs.theorems.Days.{years_counted}
use Rattle.time.proofs.calendar.days_before_year.Goals as goal

pub returns : goal.returns
returns c = sym (years_counted c.args.year)
