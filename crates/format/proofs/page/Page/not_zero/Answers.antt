-- `format::page::Page::not_zero` meets its contract: nothing for 0, and a remark for any other number. Assumes nothing.
use Rattle.std.proofs.Common.{sym, ap, ◌∙◌}
use Rattle.format.specs.Page.{put}
use Rattle.format.specs.Lent.{lent}
use Rattle.format.proofs.Writing.{put_none, put_both}
use Rattle.format.proofs.Answers.{remark_none, remark_some}
use Rattle.format.proofs.page.Page.not_zero.Goals as goal

pub returns-then-n-eq0-clause-written : goal.returns-then-n-eq0-clause-written
returns-then-n-eq0-clause-written c =
    let here = lent c.args.self.now in
    sym (put_none here) ∙ ap (put here) (sym (remark_none c.args.n c.if-n-eq0.true))

pub returns-clause-written : goal.returns-clause-written
returns-clause-written c =
    let a = c.args in
    put_both _ _ _ c.text.ensures.written c.number.ensures.written
    ∙ ap (put (lent a.self.now)) (sym (remark_some a.n c.if-n-eq0.false))
