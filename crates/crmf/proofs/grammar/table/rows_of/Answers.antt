-- `crmf::grammar::table::rows_of` meets its contract: the word's field is the line's. Assumes nothing.
use mathlib.Core.Path.{ap, ◌∙◌}
use native.Mathlib.Omega.{arith}
use Rattle.crmf.specs.steps.grammar.Packed.{rows_field}
use Rattle.crmf.proofs.theorems.lines.WordFields.{rows_at, rows_few}
use Rattle.crmf.proofs.grammar.table.rows_of.Goals as goal

pub returns : goal.returns
returns c k e =
    let r = ap rows_field e ∙ rows_at k in
    (r, omega (arith, r, rows_few k))
