-- `writer::assemble::assemble` meets its contract. The loop's invariant: the scratch begins with the octets of the rows so far. Assumes nothing.
use lib.ListN.{length}
use Rattle.crmf.specs.steps.rows.Agree.{draft_rows}
use Rattle.writer.proofs.theorems.Assembling.{Joined}
use Rattle.writer.proofs.assemble.assemble.Given as goal

abbrev pub invariant-loop-numbers : goal.invariant-loop-numbers
invariant-loop-numbers l = Joined l.draft.bytes.now (draft_rows l.draft.numbers.now) (length l.yielded) l.at l.initial.scratch l.scratch
