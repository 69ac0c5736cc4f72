-- `verdict::verdict::proof_verdict` meets its contract: each case of the identifier is the definition's. Assumes nothing.
use mathlib.Core.Path.{ap, ◌∙◌}
use mathlib.Core.Bool.{Bool}
use Rattle.verdict.specs.meaning.Verdict.{encipherment_verdict, agreement_verdict}
use Rattle.verdict.specs.steps.Judging.{bare}
use Rattle.verdict.specs.steps.Results.{verdict_told}
use Rattle.verdict.proofs.theorems.verdict.Judging.{answer_verified, answer_signature, answer_encipherment, answer_agreement, answer_none}
use Rattle.verdict.proofs.verdict.proof_verdict.Goals as goal

pub returns-in-128 : goal.returns-in-128
returns-in-128 c = ap verdict_told c.plain.ensures ∙ answer_verified _ _ _ _ c.in-128.is

pub returns-in-161 : goal.returns-in-161
returns-in-161 c = c.signature.ensures _ c.find.ensures ∙ answer_signature _ _ _ _ c.in-161.is

pub returns-in-162 : goal.returns-in-162
returns-in-162 c =
    ap verdict_told c.plain-in-162.ensures
    ∙ ap bare (c.encipherment.ensures ∙ ap encipherment_verdict c.has.ensures)
    ∙ answer_encipherment _ _ _ _ c.in-162.is

pub returns-in-163 : goal.returns-in-163
returns-in-163 c =
    let a = c.args in
    ap verdict_told c.plain-in-163.ensures
    ∙ ap bare (c.agreement.ensures ∙ ap (λ (mac : Bool). agreement_verdict mac a.both) c.has-in-163.ensures)
    ∙ answer_agreement _ _ _ _ c.in-163.is

pub returns-in_default : goal.returns-in_default
returns-in_default c =
    let rest = c.in_default.in_default-own.rest in
    ap verdict_told c.plain-in_default.ensures ∙ answer_none _ _ _ _ rest.0.0.0.1 rest.0.0.1 rest.0.1 rest.1
