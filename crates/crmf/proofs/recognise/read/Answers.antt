-- `crmf::recognise::read` meets its contract: an input that is recognised fills the table, and any other leaves it. Assumes nothing.
use mathlib.Core.Path.{sym, ◌∙◌}
use Rattle.crmf.proofs.theorems.recognise.CountWays.{unrecognised_stays, recognised_fills}
use Rattle.crmf.proofs.recognise.read.Goals as goal
use Rattle.crmf.proofs.recognise.read.Goals.{After-count_by}

pub returns-in_err-rows : goal.returns-in_err-rows
returns-in_err-rows c =
    let counted = (goal.at.returns-in_err-rows c).After-count_by in
    let a = counted.args in
    let is = sym counted.count_by.ensures ∙ c.in_err-rows.was in
    rw c.from_residual.ensures (sym is, unrecognised_stays a.edition a.bytes.now a.out.now is)

pub returns : goal.returns
returns c =
    let counted = (goal.at.returns c).After-count_by in
    let a = counted.args in
    let is = sym counted.count_by.ensures ∙ c.in_ok-rows.was in
    (sym is, c.fill.ensures.1 ∙ recognised_fills a.edition a.bytes.now a.out.now _ is)
