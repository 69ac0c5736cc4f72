-- `compare::compare::accept_both` meets its contract: the first's refusal, the second's, or both counts. Assumes nothing.
use Rattle.editions.proofs.Laws.{taken}
use Rattle.compare.proofs.theorems.Judging.{count_told, first_told, second_told}
use mathlib.Core.Path.{refl}
use Rattle.std.proofs.lemmas.Result.{err_from_is_err_and}
use Rattle.compare.proofs.compare.accept_both.Goals as goal

pub returns-in_err-one : goal.returns-in_err-one
returns-in_err-one c =
    let p = err_from_is_err_and c.from_residual.result c.from_residual.ensures.1 in
    rw (p.1, p.2) (first_told c.accept.result _ c.in_err-one.ensures.cases c.accept.ensures)

pub returns-in_err-two : goal.returns-in_err-two
returns-in_err-two c =
    let p = err_from_is_err_and c.from_residual-in_err-two.result c.from_residual-in_err-two.ensures.1 in
    let one = taken (count_told c.accept.result _ c.in_ok-one.ensures.cases c.accept.ensures) refl in
    rw (p.1, p.2) (second_told one c.accept-2.result _ c.in_err-two.ensures.cases c.accept-2.ensures)
