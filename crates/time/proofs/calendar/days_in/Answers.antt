-- `time::calendar::days_in` meets its contract: the list has the days of every month, but for February in a leap year. Assumes nothing.
use mathlib.Core.Bool.{and-true}
use mathlib.Core.Path.{sym, ◌∙◌}
use borrow.Author.Tests.{ltb-true, eqb-true, eq-eqb}
use lib.Dec.{eqb}
use Rattle.time.specs.steps.Moments.{as_option}
use Rattle.time.proofs.theorems.Digits.{both}
use Rattle.time.proofs.theorems.Dates.{days_zero, days_there, days_past, days_leap, days_february}
use Rattle.time.proofs.calendar.days_in.Goals as goal

pub returns-in_err-checked_sub : goal.returns-in_err-checked_sub
unfolding as_option
returns-in_err-checked_sub c = c.from_residual.ensures ∙ rw (days_zero c.args.year c.args.month c.in_err-checked_sub.ensures)

pub returns-in_err-get : goal.returns-in_err-get
unfolding as_option
returns-in_err-get c =
    c.from_residual-in_err-get.ensures ∙ rw (days_past c.args.year c.args.month _ c.in_ok-checked_sub.ensures c.in_err-get.ensures.lookup.3)

pub returns-then-leap-month : goal.returns-then-leap-month
unfolding as_option
returns-then-leap-month c =
    let a = c.args in
    let two = both c.leap.result (eqb a.month 2) c.if-leap-month.true in
    let february = eqb-true a.month 2 two.1 in
    rw (c.from-days.ensures, c.in_ok-get.ensures.lookup.1, days_february a.month _ _ february c.in_ok-checked_sub.ensures, february, days_leap a.year (sym c.leap.ensures ∙ two.0))

pub returns : goal.returns
unfolding as_option
returns c =
    let a = c.args in
    rw (c.from-days.ensures, c.in_ok-get.ensures.lookup.1)
    (rw (days_there a.year a.month _ c.in_ok-get.field-0.now c.in_ok-checked_sub.ensures (λ two. sym c.leap.ensures ∙ rw (eq-eqb a.month 2 two, and-true c.leap.result) at c.if-leap-month.false) (ltb-true _ _ (sym c.in_ok-get.ensures.lookup.0))))
