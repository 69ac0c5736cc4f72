-- `compare::compare::compare` meets its contract: the first's refusal, the second's, or what is found of both. Assumes nothing.
use native.Mathlib.Omega.{arith}
use mathlib.Core.Path.{refl}
use Rattle.std.proofs.lemmas.Result.{err_from_is_err_and}
use Rattle.editions.proofs.Laws.{taken}
use Rattle.compare.proofs.theorems.Batches.{ready}
use Rattle.compare.proofs.theorems.Comparing.{compares_short, compares_listed}
use Rattle.compare.proofs.theorems.Judging.{compare_refused}
use Rattle.compare.proofs.compare.compare.Goals as goal

pub returns-in_err-rows : goal.returns-in_err-rows
returns-in_err-rows c =
    let p = err_from_is_err_and c.from_residual.result c.from_residual.ensures.1 in
    rw (p.1, p.2) (compare_refused c.in_err-rows.ensures)

pub find_in_tables-count-requires : goal.find_in_tables-count-requires
find_in_tables-count-requires c = (ready c.in_ok-rows.ensures.0 refl, ready c.in_ok-rows.ensures.1 refl, tt)

pub returns-then-list-count : goal.returns-then-list-count
returns-then-list-count c =
    let both = c.in_ok-rows.ensures in
    rw c.of_neither.ensures
    (compares_short (taken both.0 refl) (taken both.1 refl) c.find_in_tables-count.ensures (omega (arith, c.if-list-count.true)))

pub returns : goal.returns
returns c =
    let both = c.in_ok-rows.ensures in
    compares_listed (taken both.0 refl) (taken both.1 refl) c.find_in_tables-count.ensures (omega (arith, c.if-list-count.false))
