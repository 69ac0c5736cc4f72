-- `writer::lengths::whole_of` meets its contract. Assumes nothing.
use mathlib.Core.Path.{sym, ◌∙◌}
use Rattle.writer.specs.steps.Inner.{row_of}
use Rattle.writer.proofs.theorems.WholeLengths.{container_whole, leaf_not, leaf_whole}
use native.Mathlib.Omega.{arith}
use Rattle.writer.proofs.lengths.whole_of.Goals as goal

pub returns-then-container : goal.returns-then-container
returns-then-container c =
    let a = c.args in
    container_whole a.bytes.now (row_of a.row) a.inner c.whole_around.result (sym c.container.ensures ∙ c.if-container.true) c.whole_around.ensures

pub returns-then-bytes-end : goal.returns-then-bytes-end
returns-then-bytes-end c =
    let a = c.args in
    leaf_not a.bytes.now (row_of a.row) a.inner (sym c.container.ensures ∙ c.if-container.false)
    (λ inside. grind (arith, c.if-bytes-end.true, c.in_ok-end.ensures))

pub returns : goal.returns
returns c =
    let a = c.args in
    leaf_whole a.bytes.now (row_of a.row) a.inner (sym c.container.ensures ∙ c.if-container.false)
    (grind (arith, c.if-bytes-end.false, c.in_ok-end.ensures)) (grind (arith, c.if-bytes-end.false))
