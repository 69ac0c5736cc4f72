-- The measure of `format::page::Page::number` is the number. Assumes nothing.
use Rattle.format.proofs.page.Page.+number.Given as goal

abbrev pub decreases-number : goal.decreases-number
decreases-number l = l.n
