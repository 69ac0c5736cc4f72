-- `crmf::rows::Separate` takes a row as it says: a row past the table's room isn't written, and of any other there are five stores. Assumes
-- nothing.
use Prim.Native.Nat.{◌/◌}
use native.Mathlib.Omega.{arith}
use mathlib.Core.Bool.{false}
use mathlib.Core.Path.{refl}
use lib.ListN.{length}
use Rattle.crmf.specs.meaning.Rows.{width}
use Rattle.crmf.specs.steps.rows.Fill.{entry_row}
use Rattle.crmf.proofs.theorems.rows.Writing.{written_past, written_row}
use Rattle.crmf.proofs.rows.SeparateTaker.take.Goals as goal

pub returns-then-out-at : goal.returns-then-out-at
returns-then-out-at c =
    let a = c.args in
    (refl, written_past false a.out.now a.row (length a.out.now / width) (entry_row a.new) (omega (arith, c.if-out-at.true)))

pub returns : goal.returns
returns c =
    let a = c.args in
    (refl, written_row a.out.now a.row (length a.out.now / width) (entry_row a.new) (omega (arith, c.if-out-at.false)) (omega arith))
