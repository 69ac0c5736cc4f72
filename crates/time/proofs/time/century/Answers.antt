-- `time::time::century` meets its contract: its test is the definition's. Assumes nothing.
use native.Mathlib.Omega.{arith}
use borrow.Author.Tests.{le-leb, lt-leb}
use Rattle.time.specs.meaning.Time.{century}
use Rattle.time.proofs.time.century.Goals as goal

pub returns-then-year-ge50 : goal.returns-then-year-ge50
unfolding century
returns-then-year-ge50 c = (rw (century, le-leb _ _ c.if-year-ge50.true), omega arith)

pub returns : goal.returns
unfolding century
returns c = (rw (century, lt-leb _ _ c.if-year-ge50.false), omega arith)
