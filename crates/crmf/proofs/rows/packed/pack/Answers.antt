-- `crmf::rows::packed::pack` meets its contract: a row has one number, so there is room for as many rows as numbers. Assumes nothing.
use Prim.Native.Nat.{ℕ, ◌-◌}
use native.Mathlib.Nat.{le_refl}
use native.Mathlib.Omega.{arith}
use mathlib.Core.Bool.{true}
use mathlib.Core.Path.{◌≡◌, refl, ap, ◌∙◌}
use lib.ListN.{length, take}
use Rattle.crmf.specs.meaning.Lists.{over}
use Rattle.crmf.specs.steps.rows.Fill.{rows_of_input}
use Rattle.crmf.specs.steps.rows.Packing.{packed_rows}
use Rattle.crmf.proofs.theorems.rows.Taking.{took_written}
use Rattle.crmf.proofs.rows.packed.pack.Goals as goal

pub returns : goal.returns
returns c =
    let a = c.args in
    let all : length a.out.now - 0 ≡ length a.out.now = omega arith in
    took_written true (length a.out.now) 0 (rows_of_input a.bytes.now) a.out.now c.walk.result c.walk.new.out refl (le_refl _) c.walk.ensures
    ∙ ap (λ (n : ℕ). over a.out.now 0 (packed_rows (take n (rows_of_input a.bytes.now)))) all
