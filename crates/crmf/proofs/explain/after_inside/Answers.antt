-- `crmf::explain::after_inside` meets its contract: the step is what the value says of the part that is lent. Assumes nothing.
use mathlib.Core.Path.{◌≡◌, sym, ap, ◌∙◌}
use lib.Seq.{slice}
use Rattle.der.proofs.Laws.{take_slice}
use Rattle.std.specs.Prelude.{Err, Ok}
use Rattle.crmf.specs.steps.explain.Walk.{line, judged}
use Rattle.crmf.specs.steps.explain.Inner.{stepped}
use Rattle.crmf.proofs.explain.after_inside.Goals as goal

pub returns-in-Ok : goal.returns-in-Ok
returns-in-Ok c = λ k e.
    let a = c.args in
    let says : judged (line k).judge (line k).next (slice a.fit.content a.fit.end a.bytes.now) ≡ Ok _ =
    ap (judged (line k).judge (line k).next) (sym (take_slice a.fit.content a.fit.end a.bytes.now c.requires.0))
    ∙ sym (c.in-Ok.ensures k e) in
    sym (ap (stepped a.fit.first a.fit.end a.tally) says)

pub returns-in-Err : goal.returns-in-Err
returns-in-Err c = λ k e.
    let a = c.args in
    let says : judged (line k).judge (line k).next (slice a.fit.content a.fit.end a.bytes.now) ≡ Err _ =
    ap (judged (line k).judge (line k).next) (sym (take_slice a.fit.content a.fit.end a.bytes.now c.requires.0))
    ∙ sym (c.in-Err.ensures k e) in
    sym (ap (stepped a.fit.first a.fit.end a.tally) says)
