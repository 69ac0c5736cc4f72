-- `verdict::verdict::message` meets its contract: the elements that are read in a message are its certReq and its proof. Assumes nothing.
use Rattle.std.proofs.Common.{refl, ◌∙◌, arith}
use mathlib.Core.Path.{ap₂}
use Rattle.crmf.specs.meaning.Fields.{listed}
use Rattle.crmf.proofs.Laws.{read_forward}
use Rattle.verdict.specs.steps.Judging.{proof_answer}
use Rattle.verdict.proofs.theorems.verdict.Elements.{fields_of, first_of, lie}
use Rattle.verdict.proofs.theorems.verdict.MessagePlaces.{inside_first, after_first, first_part, proof_split, thirty_made}
use Rattle.verdict.proofs.verdict.message.Goals as goal

pub overflow_sub-part : goal.overflow_sub-part
overflow_sub-part c =
    let own = c.split.result.inside in
    omega (arith, read_forward own.bytes.now own.at own.end (lie own) (first_of own) refl, c.split-request.ensures.after)

pub returns : goal.returns
returns c = λ m more same parts.
    let own = c.split.result.inside in
    let request = c.split-request in
    let rest = request.result.after in
    let proof = c.split-proof in
    let held = inside_first c.args.messages same own c.split.ensures.inside (thirty_made m.own parts.thirty) ∙ parts.whole.held in
    let asked = inside_first own held request.result.inside request.ensures.inside (thirty_made m.cert_req parts.cert_req) ∙ parts.request.held in
    let left = after_first own held rest request.ensures.after in
    c.proof_verdict.ensures
    ∙ ap₂ (proof_answer proof.result.identifier (fields_of proof.result.inside)) (c.is_named-both.ensures m (listed m.controls) asked parts.template) (first_part own held rest request.ensures.after)
    ∙ proof_split m parts rest proof.result.inside proof.ensures.inside left proof.result.identifier proof.ensures.identifier
