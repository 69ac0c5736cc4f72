-- `format::page::Page::number` meets its contract: the digits of the tens, and the last. Assumes nothing.
use Rattle.std.proofs.Common.{◌/◌, ◌%◌, [], ◌∷◌, sym, ap, ◌∙◌}
use Rattle.format.specs.Page.{Page, put}
use Rattle.format.specs.Lent.{lent}
use Rattle.format.specs.Decimal.{digit, decimal}
use Rattle.format.proofs.Writing.{put_parts}
use Rattle.format.proofs.Digits.{decimal_small, decimal_large}
use Rattle.format.proofs.page.Page.+number.Goals as goal

pub returns-then-n-lt10-clause-written : goal.returns-then-n-lt10-clause-written
returns-then-n-lt10-clause-written t c =
    let a = c.args in
    c.character.ensures.written ∙ ap (put (lent a.self.now)) (sym (decimal_small a.n c.if-n-lt10.true))

pub returns-clause-written : goal.returns-clause-written
returns-clause-written t c =
    let a = c.args in
    let here = lent a.self.now in
    c.character-2.ensures.written ∙ ap (λ (p : Page). put p (digit (a.n % 10) ∷ [])) c.number.ensures.written
    ∙ put_parts here (decimal (a.n / 10)) (digit (a.n % 10) ∷ []) ∙ ap (put here) (sym (decimal_large a.n c.if-n-lt10.false))
