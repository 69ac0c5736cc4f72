-- `editions::reader::read` meets its contract: no edition; an input that is recognised; or any other, for which the table stays and the answer
-- is that without a table. Assumes nothing.
use mathlib.Core.Path.{◌≡◌, sym, ap, subst, ◌∙◌}
use mathlib.Core.Bool.{false, not, ◌&&◌}
use Prim.Native.Nat.{ℕ}
use native.Mathlib.Omega.{arith}
use lib.Dec.{eqb}
use Rattle.std.proofs.lemmas.Result.{err_from_is_err_and}
use Rattle.der.proofs.Laws.{octets_each}
use Rattle.crmf.proofs.Laws.{unrecognised_stays}
use Rattle.editions.specs.meaning.Answer.{Answer}
use Rattle.editions.specs.meaning.Answers.{Answers}
use Rattle.editions.specs.meaning.Reads.{Reads}
use Rattle.editions.specs.steps.Reading.{answer}
use Rattle.editions.specs.steps.OneWalk.{shown_answer}
use Rattle.editions.specs.steps.Results.{answer_of}
use Rattle.editions.proofs.theorems.Tables.{read_refused}
use Rattle.editions.proofs.theorems.ReadsExactly.{equal_reading}
use Rattle.editions.proofs.theorems.RecognisedAnswer.{unrecognised_refused, recognised_shown}
use Rattle.editions.proofs.theorems.Results.{known_number}
use Rattle.editions.proofs.reader.read.Goals as goal

pub returns-in_err-known : goal.returns-in_err-known
returns-in_err-known c =
    let p = err_from_is_err_and c.from_residual.result c.from_residual.ensures.1 in
    rw (p.1, p.2, c.in_err-known.ensures.0) (Reads.refused (Answers.unknown c.in_err-known.ensures.1) (λ z. absurd (omega (arith, z))))

pub returns-in-Some : goal.returns-in-Some
returns-in-Some c =
    let a = c.args in
    let counted = c.in-Some in
    let octets = octets_each a.bytes.now (λ i. (c.type_inv.bytes i).fits) in
    let known = subst (λ (e : ℕ). (not (eqb e 1) && not (eqb e 2)) ≡ false) c.in_ok-known.ensures (known_number c.in_ok-known.known) in
    let (answered, after) = recognised_shown a.edition a.bytes.now a.table.now octets known _ (sym c.read.ensures.0 ∙ counted.is) in
    equal_reading a.edition a.bytes.now a.table.now octets _ _
    (c.shown.ensures ∙ ap (shown_answer counted.count) c.read.auto.out ∙ answered, c.read.ensures.1 ∙ after)

pub returns-in-None : goal.returns-in-None
returns-in-None c =
    let a = c.args in
    let none = sym c.read.ensures.0 ∙ c.in-None.is in
    let stays = c.read.ensures.1 ∙ sym (unrecognised_stays a.edition a.bytes.now a.table.now none) in
    let found = c.exact.ensures ∙ ap (λ (e : ℕ). answer e a.bytes.now) c.in_ok-known.ensures in
    let octets = octets_each a.bytes.now (λ i. (c.type_inv.bytes i).fits) in
    let (answered, after) =
    read_refused a.edition a.bytes.now a.table.now (answer_of c.exact.result) found
    (λ zero. unrecognised_refused a.edition a.bytes.now octets none (ap (λ (x : Answer). x.number) (sym found) ∙ zero)) in
    equal_reading a.edition a.bytes.now a.table.now octets _ _ (answered, stays ∙ after)
