-- `time::time::moment_at` meets its contract: the numbers that it reads are the definition's, and so are its tests. Assumes nothing.
use Prim.Native.Nat.{◌+◌}
use mathlib.Core.Bool.{true, false}
use mathlib.Core.Option.{some, bind}
use mathlib.Core.Path.{◌≡◌, ◌∙◌}
use lib.Dec.{eqb}
use lib.ListN.{get_or}
use Rattle.time.specs.meaning.Calendar.{days_in, days_before, seconds, moment}
use Rattle.time.specs.meaning.Time.{pair_at, date_at}
use Rattle.time.specs.steps.Moments.{as_option}
use Rattle.time.proofs.theorems.Dates.{moment_of, date_bounds, no_month, parts_tested}
use Rattle.time.proofs.theorems.Telling.{told_some, told_none}
use Rattle.time.proofs.time.moment_at.Goals as goal
use Rattle.time.proofs.time.moment_at.Goals.{In_ok-month, In_ok-day, In_ok-hour, In_ok-minute, In_ok-second, In_ok-is_day}

-- the parts are there
month : (c : In_ok-month) → pair_at c.args.content.now c.args.i ≡ some c.in_ok-month.month
month c = told_some _ _ _ c.pair_at-month.ensures c.in_ok-month.was

pub returns-in_err-month : goal.returns-in_err-month
unfolding as_option date_at bind
returns-in_err-month c = c.from_residual.ensures ∙ rw (date_at, told_none _ _ c.pair_at-month.ensures c.in_err-month.was)

day : (c : In_ok-day) → pair_at c.args.content.now (c.args.i + 2) ≡ some c.in_ok-day.day
day c = told_some _ _ _ c.pair_at-day.ensures c.in_ok-day.was

hour : (c : In_ok-hour) → pair_at c.args.content.now (c.args.i + 4) ≡ some c.in_ok-hour.hour
hour c = told_some _ _ _ c.pair_at-hour.ensures c.in_ok-hour.was

minute : (c : In_ok-minute) → pair_at c.args.content.now (c.args.i + 6) ≡ some c.in_ok-minute.minute
minute c = told_some _ _ _ c.pair_at-minute.ensures c.in_ok-minute.was

second : (c : In_ok-second) → pair_at c.args.content.now (c.args.i + 8) ≡ some c.in_ok-second.second
second c = told_some _ _ _ c.pair_at-second.ensures c.in_ok-second.was

pub returns-in_err-day : goal.returns-in_err-day
unfolding as_option date_at bind
returns-in_err-day c =
    let at = goal.at.returns-in_err-day c in
    c.from_residual-in_err-day.ensures ∙ rw (date_at, month at.In_ok-month, told_none _ _ c.pair_at-day.ensures c.in_err-day.was)

pub returns-in_err-hour : goal.returns-in_err-hour
unfolding as_option date_at bind
returns-in_err-hour c =
    let at = goal.at.returns-in_err-hour c in
    c.from_residual-in_err-hour.ensures ∙ rw (date_at, month at.In_ok-month, day at.In_ok-day, told_none _ _ c.pair_at-hour.ensures c.in_err-hour.was)

pub returns-in_err-minute : goal.returns-in_err-minute
unfolding as_option date_at bind
returns-in_err-minute c =
    let at = goal.at.returns-in_err-minute c in
    c.from_residual-in_err-minute.ensures
    ∙ rw (date_at, month at.In_ok-month, day at.In_ok-day, hour at.In_ok-hour, told_none _ _ c.pair_at-minute.ensures c.in_err-minute.was)

pub returns-in_err-second : goal.returns-in_err-second
unfolding as_option date_at bind
returns-in_err-second c =
    let at = goal.at.returns-in_err-second c in
    c.from_residual-in_err-second.ensures
    ∙ rw (
      date_at,
      month at.In_ok-month,
      day at.In_ok-day,
      hour at.In_ok-hour,
      minute at.In_ok-minute,
      told_none _ _ c.pair_at-second.ensures c.in_err-second.was,
    )

-- the parts make the date, if Z comes after them
made : (c : In_ok-second) →
    let a = c.args in
    let s = a.content.now in
    bind (date_at a.year s a.i) moment
    ≡ moment_of a.year c.in_ok-month.month c.in_ok-day.day c.in_ok-hour.hour c.in_ok-minute.minute c.in_ok-second.second (eqb (get_or s (a.i + 10) 0) 0x5A)
unfolding date_at bind
made c =
    let at = goal.at.In_ok-second c in
    rw (date_at, month at.In_ok-month, day at.In_ok-day, hour at.In_ok-hour, minute at.In_ok-minute, second c)

pub returns-in_err-is_day : goal.returns-in_err-is_day
unfolding as_option
returns-in_err-is_day c =
    let s = (goal.at.returns-in_err-is_day c).In_ok-second in
    c.from_residual-in_err-is_day.ensures
    ∙ rw (made s, no_month c.args.year _ _ _ _ _ _ (told_none _ _ c.days_in.ensures c.in_err-is_day.was))

-- the month has its days
days : (c : In_ok-is_day) → days_in c.args.year c.in_ok-month.month ≡ some c.in_ok-is_day.field-0
days c = told_some _ _ _ c.days_in.ensures c.in_ok-is_day.was

pub days_before-days-requires : goal.days_before-days-requires
days_before-days-requires c =
    let b = (date_bounds c.args.year _ _ _ _ _ _ _ (days (goal.at.days_before-days-requires c).In_ok-is_day) c.if-is_day-hour.true).0 in
    (c.requires.0, b.0, b.1, b.2)

pub returns-then-is_day-hour : goal.returns-then-is_day-hour
unfolding as_option seconds days_before
returns-then-is_day-hour c =
    let at = goal.at.returns-then-is_day-hour c in
    rw (
      made at.In_ok-second,
      parts_tested c.args.year _ _ _ _ _ _ _ true (days at.In_ok-is_day) c.if-is_day-hour.true,
      c.seconds.ensures,
      c.days_before-days.ensures.0,
    )

pub returns : goal.returns
unfolding as_option
returns c =
    let at = goal.at.returns c in
    rw (made at.In_ok-second, parts_tested c.args.year _ _ _ _ _ _ _ false (days at.In_ok-is_day) c.if-is_day-hour.false)
