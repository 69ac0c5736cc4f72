-- `format::page::Page::character` meets its contract: a character more, or none past the page's end. Assumes nothing.
use Rattle.std.proofs.Common.{sym}
use Rattle.format.specs.Lent.{lent}
use Rattle.format.proofs.Writing.{put_one, put_full}
use Rattle.format.proofs.page.Page.character.Goals as goal

pub returns-then-self-clause-written : goal.returns-then-self-clause-written
returns-then-self-clause-written c = sym (put_full (lent c.args.self.now) _ c.if-self.true)

pub returns-clause-written : goal.returns-clause-written
returns-clause-written c = sym (put_one c.args.self.now.octets.now c.args.self.now.at c.args.c c.if-self.false)
