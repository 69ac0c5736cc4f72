-- `time::validity::shown_moment` meets its contract: notBefore and notAfter have the Time's element as their content. Assumes nothing.
use mathlib.Core.Path.{sym, ap, ◌∙◌}
use lib.Dec.{eqb}
use lib.ListN.{get_or}
use Rattle.time.specs.meaning.Validity.{element_moment}
use Rattle.time.specs.steps.Moments.{as_option}
use Rattle.time.proofs.theorems.Validities.{shown_inside, shown_long, shown_other, neither, either}
use Rattle.time.proofs.validity.shown_moment.Goals as goal

pub returns-in_err-identifier : goal.returns-in_err-identifier
unfolding as_option
returns-in_err-identifier c =
    c.from_residual.ensures ∙ rw (shown_long c.args.field.now c.in_err-identifier.ensures)

pub returns-then-identifier : goal.returns-then-identifier
unfolding as_option
returns-then-identifier c =
    let s = c.args.field.now in
    let parts = c.in_ok-identifier.ensures in
    let other = neither (eqb (get_or s 0 0) 0xA0) (eqb (get_or s 0 0) 0xA1) (rw parts.1 at c.if-identifier.true) in
    rw (shown_other s parts.0 other)

pub returns : goal.returns
returns c =
    let s = c.args.field.now in
    let parts = c.in_ok-identifier.ensures in
    let one = either (eqb (get_or s 0 0) 0xA0) (eqb (get_or s 0 0) 0xA1) (rw parts.1 at c.if-identifier.false) in
    c.element_moment.ensures ∙ ap as_option (ap element_moment parts.2 ∙ sym (shown_inside s parts.0 one))
