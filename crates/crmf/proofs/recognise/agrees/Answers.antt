-- `crmf::recognise::agrees` meets its contract: the rows are compared, and then the input is judged. Assumes nothing.
use mathlib.Core.Path.{sym, ap, ◌∙◌}
use Rattle.crmf.specs.steps.recognise.Count.{is_recognised}
use Rattle.crmf.proofs.theorems.recognise.AgreedRows.{agreed_not, agreed_judged}
use Rattle.crmf.proofs.recognise.agrees.Goals as goal
use Rattle.crmf.proofs.recognise.agrees.Goals.{After-agree}

pub returns-else-agree : goal.returns-else-agree
returns-else-agree c =
    let compared = (goal.at.returns-else-agree c).After-agree in
    let a = compared.args in
    c.if-agree.false ∙ agreed_not a.edition a.bytes.now a.draft.now a.in_place (sym compared.agree.ensures ∙ c.if-agree.false)

pub returns-then-agree : goal.returns-then-agree
returns-then-agree c =
    let compared = (goal.at.returns-then-agree c).After-agree in
    let a = compared.args in
    c.is_some.ensures ∙ ap is_recognised c.count_by.ensures
    ∙ agreed_judged a.edition a.bytes.now a.draft.now a.in_place (sym compared.agree.ensures ∙ c.if-agree.true)
