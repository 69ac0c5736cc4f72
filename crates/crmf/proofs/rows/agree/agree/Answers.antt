-- `crmf::rows::agree::agree` meets its contract: the batch's rows are compared until one differs. Assumes nothing.
use mathlib.Core.List.{[]}
use mathlib.Core.Path.{◌∙◌}
use Rattle.crmf.specs.steps.rows.Agree.{draft_rows}
use Rattle.crmf.specs.steps.rows.Fill.{rows_of_input}
use Rattle.crmf.proofs.theorems.rows.Comparing.{took_passed, agree_rows}
use Rattle.crmf.proofs.rows.agree.agree.Goals as goal

pub returns : goal.returns
returns c =
    let a = c.args in
    let rows = rows_of_input a.bytes.now in
    c.eq.ensures ∙ agree_rows a.in_place a.draft.now rows c.walk.result (took_passed a.in_place (draft_rows a.draft.now) 0 rows [] c.walk.result c.walk.new.out c.walk.ensures)
