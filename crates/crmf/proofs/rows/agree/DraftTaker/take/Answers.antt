-- `crmf::rows::agree::Draft` takes a row as it says: if the draft has none of its number it differs, and otherwise it is compared. Assumes nothing.
use native.Mathlib.Omega.{arith}
use mathlib.Core.Path.{◌∙◌}
use Rattle.crmf.specs.steps.rows.Fill.{entry_row}
use Rattle.crmf.proofs.theorems.rows.Comparing.{compare_past, compare_there}
use Rattle.crmf.proofs.rows.agree.DraftTaker.take.Goals as goal

pub returns-then-self-at : goal.returns-then-self-at
returns-then-self-at c =
    let a = c.args in
    let d = a.self.now in
    compare_past d.in_place d.numbers.now a.row (entry_row a.new) c.if-self-at.true

pub returns : goal.returns
returns c =
    let a = c.args in
    let d = a.self.now in
    c.agrees.ensures ∙ compare_there d.in_place d.numbers.now a.row (entry_row a.new) (omega (arith, c.if-self-at.false))
