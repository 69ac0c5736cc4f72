-- `format::page::Page::refusal` meets its contract: its parts one after the other. Assumes nothing.
use Rattle.format.specs.Answer.{refusal_text}
use Rattle.format.proofs.Writing.{put_both}
use Rattle.format.proofs.page.Page.refusal.Goals as goal

pub returns-clause-written : goal.returns-clause-written
unfolding refusal_text
returns-clause-written c =
    put_both _ _ _ c.number.ensures.written (put_both _ _ _ c.character.ensures.written c.number-2.ensures.written)
