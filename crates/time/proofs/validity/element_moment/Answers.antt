-- `time::validity::element_moment` meets its contract: it judges the content by the identifier. Assumes nothing.
use mathlib.Core.Path.{sym, ap, ap₂, ◌∙◌}
use Rattle.time.specs.meaning.Time.{time_moment}
use Rattle.time.specs.steps.Moments.{as_option}
use Rattle.time.proofs.theorems.Validities.{element_short, element_other}
use Rattle.time.proofs.validity.element_moment.Goals as goal

pub returns-in_err-identifier : goal.returns-in_err-identifier
unfolding as_option
returns-in_err-identifier c =
    c.from_residual.ensures ∙ rw (element_other c.args.element.now c.in_err-identifier.ensures)

pub returns : goal.returns
returns c =
    let parts = c.in_ok-identifier.ensures in
    c.time_moment.ensures
    ∙ ap as_option (ap₂ time_moment parts.1 parts.2 ∙ sym (element_short c.args.element.now parts.0))
