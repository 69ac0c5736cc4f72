-- `crmf::rows::parent_if` meets its contract: a kind of 0 is no row. Assumes nothing.
use borrow.Author.Tests.{eq-eqb, ne_eqb}
use Rattle.crmf.specs.meaning.Rows.{parent_if}
use Rattle.crmf.proofs.rows.parent_if.Goals as goal

pub returns-then-kind-eq-NONE : goal.returns-then-kind-eq-NONE
returns-then-kind-eq-NONE c = simp (parent_if, eq-eqb _ _ c.if-kind-eq-NONE.true)

pub returns-else-kind-eq-NONE : goal.returns-else-kind-eq-NONE
returns-else-kind-eq-NONE c = simp (parent_if, ne_eqb _ _ c.if-kind-eq-NONE.false)
