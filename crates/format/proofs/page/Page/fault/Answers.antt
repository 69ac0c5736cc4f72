-- `format::page::Page::fault` meets its contract: its parts one after the other. Assumes nothing.
use Rattle.format.specs.Answer.{fault_text}
use Rattle.format.proofs.Writing.{put_both}
use Rattle.format.proofs.page.Page.fault.Goals as goal

pub returns-clause-written : goal.returns-clause-written
unfolding fault_text
returns-clause-written c =
    put_both _ _ _ c.refusal.ensures.written (put_both _ _ _ c.character.ensures.written c.number.ensures.written)
