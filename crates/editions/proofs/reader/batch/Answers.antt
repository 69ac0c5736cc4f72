-- `editions::reader::batch` meets its contract: the walk that reads every form passes or breaks. Assumes nothing.
use mathlib.Core.Path.{sym, ap, ◌∙◌}
use Rattle.crmf.specs.steps.explain.Walk.{walked_of}
use Rattle.editions.proofs.theorems.OneWalk.{batch_passed, batch_broken}
use Rattle.editions.proofs.theorems.Results.{is_edition}
use Rattle.editions.proofs.reader.batch.Goals as goal

pub returns-in-Ok : goal.returns-in-Ok
returns-in-Ok c =
    let a = c.args in
    c.passed.ensures ∙ batch_passed (is_edition a.edition) a.bytes.now c.requires _ (sym c.count.ensures ∙ ap walked_of c.in-Ok.is)

pub returns-in-Err : goal.returns-in-Err
returns-in-Err c =
    let a = c.args in
    c.broken.ensures ∙ batch_broken (is_edition a.edition) a.bytes.now c.requires _ _ _ (sym c.count.ensures ∙ ap walked_of c.in-Err.is)
