-- `verdict::verdict::signature` meets its contract: a part is found exactly if a poposkInput is. Assumes nothing.
use Rattle.std.proofs.Common.{ap, ◌∙◌, sym}
use Rattle.verdict.specs.steps.Results.{verdict_told}
use Rattle.verdict.proofs.theorems.verdict.Judging.{signature_request, signature_input, signature_neither, signature_both}
use Rattle.verdict.proofs.verdict.signature.Goals as goal

pub returns-in-None-true : goal.returns-in-None-true
returns-in-None-true c = λ o found.
    let way = c.in-None-true in
    ap verdict_told c.tell.ensures ∙ signature_request c.args.request o (sym way.is-0 ∙ found) (sym way.is-1)

pub returns-in-Some-false : goal.returns-in-Some-false
returns-in-Some-false c = λ o found.
    let way = c.in-Some-false in
    ap verdict_told c.tell-in-Some-false.ensures ∙ signature_input c.args.request o (sym way.is-0 ∙ found) (sym way.is-1)

pub returns-in-None-false : goal.returns-in-None-false
returns-in-None-false c = λ o found.
    let way = c.in-None-false in
    ap verdict_told c.plain.ensures ∙ signature_neither c.args.request o (sym way.is-0 ∙ found) (sym way.is-1)

pub returns-in-Some-true : goal.returns-in-Some-true
returns-in-Some-true c = λ o found.
    let way = c.in-Some-true in
    ap verdict_told c.plain-in-Some-true.ensures ∙ signature_both c.args.request o (sym way.is-0 ∙ found) (sym way.is-1)
