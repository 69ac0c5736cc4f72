-- `time::time::pair_at` meets its contract: its test is the definition's. Assumes nothing.
use mathlib.Core.Bool.{◌&&◌}
use mathlib.Core.Path.{sym, ap₂, ◌∙◌}
use Rattle.time.specs.meaning.Time.{digit}
use Rattle.time.specs.steps.Moments.{as_option}
use Rattle.time.proofs.theorems.Digits.{pair_coded, pair_missing}
use Rattle.time.proofs.time.pair_at.Goals as goal

pub returns-then-is_ascii_digit : goal.returns-then-is_ascii_digit
unfolding as_option digit
returns-then-is_ascii_digit c =
    let a = c.args in
    let digits = sym (ap₂ ◌&&◌ c.is_ascii_digit.ensures.value c.is_ascii_digit-2.ensures.value) ∙ c.if-is_ascii_digit.true in
    rw (pair_coded a.content.now a.i digits, c.from.ensures, c.from-then-is_ascii_digit.ensures)

pub returns : goal.returns
unfolding as_option digit
returns c =
    let a = c.args in
    rw (pair_missing a.content.now a.i (sym (ap₂ ◌&&◌ c.is_ascii_digit.ensures.value c.is_ascii_digit-2.ensures.value) ∙ c.if-is_ascii_digit.false))
