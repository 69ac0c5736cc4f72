-- `verdict::verdict::is_named` meets its contract: what is read second is the template. Assumes nothing.
use mathlib.Core.Path.{sym, ap, ap₂, ◌∙◌}
use mathlib.Core.Bool.{◌&&◌}
use Rattle.verdict.specs.steps.Judging.{holds}
use Rattle.verdict.proofs.theorems.verdict.Judging.{has_first}
use Rattle.verdict.proofs.theorems.verdict.MessagePlaces.{after_first, inside_first, thirty_made}
use Rattle.verdict.proofs.verdict.is_named.Goals as goal

pub returns : goal.returns
returns c = λ m more same thirty.
    let id = c.split-id in
    let second = after_first c.args.request same id.result.after id.ensures.after in
    let inside = inside_first id.result.after second c.split.result.inside c.split.ensures.inside (thirty_made m.template thirty) in
    ap₂ ◌&&◌ (c.has.ensures ∙ ap (holds 0xA5) inside ∙ sym (has_first 0xA5 m.template))
    (c.has-2.ensures ∙ ap (holds 0xA6) inside ∙ sym (has_first 0xA6 m.template))
