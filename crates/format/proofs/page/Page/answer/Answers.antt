-- `format::page::Page::answer` meets its contract: an acceptance or a refusal, part by part. Assumes nothing.
use Rattle.std.proofs.Common.{sym, ap, ◌∙◌}
use Rattle.format.specs.Page.{put}
use Rattle.format.specs.Lent.{lent}
use Rattle.format.proofs.Writing.{put_both}
use Rattle.format.proofs.Answers.{answer_accepted, answer_refused}
use Rattle.format.proofs.page.Page.answer.Goals as goal

pub returns-then-found-ne0-clause-written : goal.returns-then-found-ne0-clause-written
returns-then-found-ne0-clause-written c =
    let a = c.args in
    put_both _ _ _ c.refusal.ensures.written c.not_zero.ensures.written
    ∙ ap (put (lent a.self.now)) (sym (answer_refused a.found a.place a.count c.if-found-ne0.true))

pub returns-clause-written : goal.returns-clause-written
returns-clause-written c =
    let a = c.args in
    put_both _ _ _ (put_both _ _ _ c.text.ensures.written c.number.ensures.written) c.not_zero-2.ensures.written
    ∙ ap (put (lent a.self.now)) (sym (answer_accepted a.found a.place a.count c.if-found-ne0.false))
