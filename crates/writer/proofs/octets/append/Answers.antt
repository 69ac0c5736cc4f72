-- `writer::octets::append` meets its contract. Assumes nothing.
use Rattle.writer.proofs.theorems.OctetRuns.{append_copy}
use native.Mathlib.Omega.{arith}
use Rattle.writer.proofs.octets.append.Goals as goal

pub returns-clause-written : goal.returns-clause-written
returns-clause-written c = let a = c.args in append_copy a.scratch.now a.at a.octets.now c.copy.new.to (omega (arith, c.requires, c.if-scratch-at.false)) c.copy.ensures
