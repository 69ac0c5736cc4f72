-- `editions::reader::accept` meets its contract: no edition, an input that is recognised, or any other. Assumes nothing.
use mathlib.Core.Path.{◌≡◌, sym, ap, subst, ◌∙◌}
use mathlib.Core.Bool.{false, not, ◌&&◌}
use Prim.Native.Nat.{ℕ}
use lib.Dec.{eqb}
use Rattle.std.proofs.lemmas.Result.{err_from_is_err_and}
use Rattle.der.proofs.Laws.{octets_each}
use Rattle.editions.specs.meaning.Answers.{Answers}
use Rattle.editions.specs.steps.Reading.{answer}
use Rattle.editions.proofs.theorems.AnswersExactly.{equal_related}
use Rattle.editions.proofs.theorems.RecognisedAnswer.{recognised_accepted}
use Rattle.editions.proofs.theorems.Results.{known_number}
use Rattle.editions.proofs.reader.accept.Goals as goal

pub returns-in_err-known : goal.returns-in_err-known
returns-in_err-known c =
    let p = err_from_is_err_and c.from_residual.result c.from_residual.ensures.1 in
    rw (p.1, p.2, c.in_err-known.ensures.0) (Answers.unknown c.in_err-known.ensures.1)

pub returns-in-Some : goal.returns-in-Some
returns-in-Some c =
    let a = c.args in
    let known = subst (λ (e : ℕ). (not (eqb e 1) && not (eqb e 2)) ≡ false) c.in_ok-known.ensures (known_number c.in_ok-known.known) in
    equal_related a.edition a.bytes.now (octets_each a.bytes.now (λ i. (c.type_inv.bytes i).fits)) _
    (recognised_accepted a.edition a.bytes.now known _ (sym c.count.ensures ∙ c.in-Some.is))

pub returns-in-None : goal.returns-in-None
returns-in-None c =
    let a = c.args in
    equal_related a.edition a.bytes.now (octets_each a.bytes.now (λ i. (c.type_inv.bytes i).fits)) _
    (c.exact.ensures ∙ ap (λ (e : ℕ). answer e a.bytes.now) c.in_ok-known.ensures)
