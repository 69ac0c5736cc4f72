-- `time::time::utc_time` meets its contract: 13 octets that begin with two digits are judged as the definition does, and all others are refused.
-- Assumes nothing.
use mathlib.Core.Path.{sym, ap, ◌∙◌}
use Rattle.time.specs.steps.Moments.{as_option}
use Rattle.time.proofs.theorems.Digits.{pair_most}
use Rattle.time.proofs.theorems.Telling.{told_some, told_none}
use Rattle.time.proofs.theorems.Times.{utc_length, utc_year, utc_no_year}
use Rattle.time.proofs.time.utc_time.Goals as goal

pub returns-then-content-ne13 : goal.returns-then-content-ne13
unfolding as_option
returns-then-content-ne13 c = rw (utc_length c.args.content.now c.if-content-ne13.true)

pub returns-in_err-year : goal.returns-in_err-year
unfolding as_option
returns-in_err-year c =
    c.from_residual.ensures ∙ rw (utc_no_year c.args.content.now c.if-content-ne13.false (told_none _ _ c.pair_at.ensures c.in_err-year.was))

pub century-requires : goal.century-requires
century-requires c = pair_most c.args.content.now 0 _ (told_some _ _ _ c.pair_at.ensures c.in_ok-year.was)

pub returns : goal.returns
returns c =
    let s = c.args.content.now in
    c.moment_at.ensures
    ∙ ap as_option (rw c.century.ensures.0 (sym (utc_year s _ c.if-content-ne13.false (told_some _ _ _ c.pair_at.ensures c.in_ok-year.was))))
