-- `compare::part::find_part` meets its contract: the first's refusal, the second's, or what is found of both. Assumes nothing.
use mathlib.Core.Path.{refl}
use Rattle.std.proofs.lemmas.Result.{err_from_is_err_and}
use Rattle.editions.proofs.Laws.{taken}
use Rattle.compare.proofs.theorems.Batches.{ready}
use Rattle.compare.proofs.theorems.Comparing.{finds_past, finds_found}
use Rattle.compare.proofs.theorems.Judging.{part_refused}
use Rattle.compare.proofs.part.find_part.Goals as goal

pub returns-in_err-rows : goal.returns-in_err-rows
returns-in_err-rows c =
    let p = err_from_is_err_and c.from_residual.result c.from_residual.ensures.1 in
    rw (p.1, p.2) (part_refused c.in_err-rows.ensures)

pub find_in_tables-found-requires : goal.find_in_tables-found-requires
find_in_tables-found-requires c = (ready c.in_ok-rows.ensures.0 refl, ready c.in_ok-rows.ensures.1 refl, refl)

pub returns-in_default : goal.returns-in_default
returns-in_default c =
    let both = c.in_ok-rows.ensures in
    rw c.of_neither.ensures (finds_past (taken both.0 refl) (taken both.1 refl) c.find_in_tables-found.ensures c.in_default.is)

pub returns : goal.returns
returns c =
    let both = c.in_ok-rows.ensures in
    finds_found (taken both.0 refl) (taken both.1 refl) c.find_in_tables-found.ensures c.in-Some.part c.in-Some.is
