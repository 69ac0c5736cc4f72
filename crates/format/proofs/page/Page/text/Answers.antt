-- `format::page::Page::text` meets its contract: each turn writes the next character that is left. Assumes nothing.
use Rattle.std.proofs.Common.{◌+◌, drop, sym, ap, ◌∙◌}
use Rattle.format.specs.Page.{Page, put}
use Rattle.format.specs.Lent.{lent}
use Rattle.format.proofs.Writing.{put_left, put_done}
use Rattle.format.proofs.page.Page.text.Goals as goal

pub loop-c-preserved : goal.loop-c-preserved
loop-c-preserved c =
    let loop = c.loop-c in
    let text = c.args.characters.now in (
      c.character.ensures.same_page ∙ loop.invariant.0,
      ap (λ (p : Page). put p (drop (loop.c-index + 1) text)) c.character.ensures.written
          ∙ sym (put_left (lent loop.self) text loop.c-index c.loop-c-test.true) ∙ loop.invariant.1,
    )

pub returns : goal.returns
returns c = record {
  same_page = c.loop-c.invariant.0;
  written = sym (put_done _ _ _ c.loop-c-test.false) ∙ c.loop-c.invariant.1;
}
