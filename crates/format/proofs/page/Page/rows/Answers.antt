-- `format::page::Page::rows` meets its contract: each turn writes the next number that is left. Assumes nothing.
use Rattle.std.proofs.Common.{◌≡◌, take, refl, sym, ap, ◌∙◌, arith}
use Rattle.std.proofs.lemmas.Grind.{common_steps}
use Rattle.format.specs.Page.{put}
use Rattle.format.specs.Lent.{lent}
use Rattle.format.specs.Rows.{rows_text}
use Rattle.format.proofs.Tables.{rows_again, rows_done}
use Rattle.format.proofs.page.Page.rows.Goals as goal

pub loop-i-init : goal.loop-i-init
unfolding rows_text
loop-i-init c = (refl, refl)

pub loop-i-preserved : goal.loop-i-preserved
loop-i-preserved c =
    let loop = c.loop-i in
    let a = c.args in (
      c.character.ensures.same_page ∙ c.number.ensures.same_page ∙ loop.invariant.0,
      rows_again _ _ _ (lent loop.self) _ _ c.loop-i-test.true refl c.after.ensures c.number.ensures.written c.character.ensures.written
          ∙ loop.invariant.1,
    )

pub returns-clause-written : goal.returns-clause-written
returns-clause-written c =
    let loop = c.loop-i in
    let a = c.args in
    let whole : take c.min.result a.table.now ≡ take a.count a.table.now = grind (arith, common_steps) in
    sym (rows_done a.width loop.i _ (lent loop.self) c.loop-i-test.false) ∙ loop.invariant.1
    ∙ ap (λ numbers. put (lent a.self.now) (rows_text a.width numbers)) whole
