-- `crmf::rows::packed::Packed` takes a row as it says: a row past the table's room isn't written, and of any other there is one store. Assumes
-- nothing.
use Prim.Native.Nat.{ℕ}
use native.Mathlib.Nat.{le_refl}
use native.Mathlib.Omega.{arith}
use mathlib.Core.Bool.{true}
use mathlib.Core.Path.{refl, ap, ◌∙◌}
use lib.ListN.{length, set}
use Rattle.crmf.specs.steps.rows.Fill.{entry_row}
use Rattle.crmf.proofs.theorems.rows.Writing.{written_past, written_packed}
use Rattle.crmf.proofs.rows.packed.PackedTaker.take.Goals as goal

pub returns-then-out-row : goal.returns-then-out-row
returns-then-out-row c =
    let a = c.args in
    (refl, written_past true a.out.now a.row (length a.out.now) (entry_row a.new) c.if-out-row.true)

pub returns : goal.returns
returns c =
    let a = c.args in
    (refl, ap (λ (x : ℕ). set a.out.now a.row x) c.number.ensures ∙ written_packed a.out.now a.row (length a.out.now) (entry_row a.new) (omega (arith, c.if-out-row.false)) (le_refl _))
