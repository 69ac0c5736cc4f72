-- What `format::page::Page::text` keeps: writing the characters that are left, after those written, gives the whole. Assumes nothing.
use Rattle.std.proofs.Common.{◌≡◌, drop}
use Rattle.format.specs.Page.{put}
use Rattle.format.specs.Lent.{lent}
use Rattle.format.proofs.page.Page.text.Given as goal

abbrev pub invariant-loop-c : goal.invariant-loop-c
invariant-loop-c l =
    (l.self.octets.ghost_name ≡ l.fn.self.octets.ghost_name)
    × (put (lent l.self) (drop l.c-index l.characters) ≡ put (lent l.fn.self) l.characters)
