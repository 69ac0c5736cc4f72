-- What `format::page::Page::rows` keeps: writing the numbers that are left, after those written, gives the whole. Assumes nothing.
use Rattle.std.proofs.Common.{◌≡◌, drop}
use Rattle.format.specs.Page.{put}
use Rattle.format.specs.Lent.{lent}
use Rattle.format.specs.Rows.{rows_from, rows_text}
use Rattle.format.proofs.page.Page.rows.Given as goal

abbrev pub invariant-loop-i : goal.invariant-loop-i
invariant-loop-i l =
    (l.self.octets.ghost_name ≡ l.fn.self.octets.ghost_name)
    × (put (lent l.self) (rows_from l.width l.i (drop l.i l.numbers)) ≡ put (lent l.fn.self) (rows_text l.width l.numbers))
