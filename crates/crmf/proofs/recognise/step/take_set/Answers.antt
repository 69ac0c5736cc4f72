-- `crmf::recognise::step::take_set` meets its contract: its tests are the definition's. Assumes nothing.
use borrow.Author.Tests.{not-true}
use mathlib.Core.Path.{sym, ◌∙◌}
use Rattle.crmf.proofs.recognise.step.take_set.Goals as goal
use Rattle.crmf.proofs.recognise.step.take_set.Goals.{else-not-checked-via-then-not-checked+else-not-closes, else-not-checked-via-else-not-checked, After-closes}

pub returns-then-not-closes : goal.returns-then-not-closes
returns-then-not-closes c =
    let d = (goal.at.returns-then-not-closes c).After-closes in
    let unchecked = not-true d.args.checked d.if-not-checked.true-raw in
    let broken = sym d.closes.ensures ∙ not-true d.closes.result c.if-not-closes.true-raw in
    rw (unchecked, broken)

pub returns : goal.returns
returns c =
    let a = c.args in
    c.skip_or_descend.ensures ∙ elim c.else-not-checked.branch [
      | else-not-checked-via-then-not-checked+else-not-closes w ↦ (let ends = sym w.closes.ensures ∙ w.if-not-closes.false in rw (w.if-not-checked.true, ends))
      | else-not-checked-via-else-not-checked w ↦ rw w.if-not-checked.false
    ]
