-- `verdict::verdict::judge` meets its contract: the refusal of reading, no message at the position, or that message's verdict. Assumes nothing.
use Prim.Native.Nat.{ℕ, ◌≤◌, ◌<◌}
use mathlib.Core.Path.{◌≡◌, refl, sym, ap, subst, ◌∙◌}
use lib.ListN.{length}
use Rattle.std.proofs.lemmas.Result.{err_from_is_err_and}
use Rattle.der.specs.meaning.Refusal.{accepted as acceptance, no_such_message}
use Rattle.der.specs.meaning.Octets.{Octets}
use Rattle.der.specs.steps.Reading.{tree}
use Rattle.der.proofs.Laws.{octets_each, some_refusal}
use Rattle.crmf.specs.steps.Positions.{message_place}
use Rattle.crmf.proofs.Laws.{StandsThere, position_missing, position_there}
use Rattle.editions.specs.meaning.Answer.{Answer}
use Rattle.editions.specs.steps.Reading.{answer}
use Rattle.editions.proofs.Laws.{related_answer}
use Rattle.verdict.specs.meaning.Judges.{Judges}
use Rattle.verdict.specs.steps.JudgeAnswer.{refused, message_at}
use Rattle.verdict.specs.steps.Results.{verdict_told}
use Rattle.verdict.proofs.theorems.verdict.JudgesExactly.{equal_verdict}
use Rattle.verdict.proofs.theorems.verdict.Answers.{answer_missing, answer_judged}
use Rattle.verdict.proofs.theorems.verdict.Batches.{Accepted, accepted_tree, accepted_content, message_there}
use Rattle.verdict.proofs.verdict.judge.Goals as goal
use Rattle.verdict.proofs.verdict.judge.Goals.{In-Some, In_ok-accept}

pub returns-in_err-accept : goal.returns-in_err-accept
returns-in_err-accept c =
    let p = err_from_is_err_and c.from_residual.result c.from_residual.ensures.1 in
    rw (p.1, p.2) (Judges.refused c.in_err-accept.ensures (some_refusal _))

-- the batch is accepted
module _ (c : In_ok-accept) where
  octets : Octets c.args.bytes.now
  octets = octets_each c.args.bytes.now (λ i. (c.type_inv.bytes i).fits)

  zero_number : let a = c.args in (answer a.edition a.bytes.now).number ≡ acceptance
  zero_number = let a = c.args in ap (λ (x : Answer). x.number) (related_answer a.edition a.bytes.now octets _ _ _ c.in_ok-accept.ensures)

  accepted : let a = c.args in Accepted a.edition a.bytes.now
  accepted = let a = c.args in accepted_tree a.edition a.bytes.now octets zero_number

pub returns-in_default : goal.returns-in_default
returns-in_default c =
    let taken = (goal.at.returns-in_default c).In_ok-accept in
    let a = taken.args in
    let s = a.bytes.now in
    let batch = accepted taken in
    equal_verdict a.edition s a.position.0 (octets taken) (refused no_such_message 0)
    (answer_missing a.edition s a.position.0 (zero_number taken)
    (position_missing s (tree 0 s) refl batch.short batch.encoded (accepted_content batch) a.position.0
    c.in_default.ensures))

-- the message is there
there : (c : In-Some) → let a = c.args in StandsThere a.bytes.now (tree 0 a.bytes.now) a.position.0 c.in-Some.at
there c =
    let taken = (goal.at.In-Some c).In_ok-accept in
    let a = taken.args in
    let s = a.bytes.now in
    let n = a.position.0 in
    let batch = accepted taken in
    let (same, within) = c.in-Some.ensures in
    let room = subst (λ (p : ℕ). p < length s) same within in
    subst (StandsThere s (tree 0 s) n) (sym same)
    (position_there s (tree 0 s) refl batch.short batch.encoded (accepted_content batch) n room)

pub returns : goal.returns
returns c =
    let found = (goal.at.returns c).In-Some in
    let taken = (goal.at.In-Some found).In_ok-accept in
    let a = taken.args in
    let s = a.bytes.now in
    let n = a.position.0 in
    let own = message_there s (accepted taken) n found.in-Some.at (there found) in
    equal_verdict a.edition s n (octets taken) (verdict_told c.message.result)
    (c.message.ensures (message_at s n) own.more own.own own.parts
    ∙ answer_judged a.edition s n (zero_number taken) own.within)
