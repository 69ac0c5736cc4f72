-- `writer::sums::add_up` meets its contract. The loop's invariant: the rows from `i` on have settled their sums. Assumes nothing.
use Rattle.crmf.specs.steps.rows.Agree.{draft_rows}
use Rattle.writer.proofs.theorems.AddingUp.{Settled}
use Rattle.writer.proofs.sums.add_up.Given as goal

abbrev pub invariant-loop-i : goal.invariant-loop-i
invariant-loop-i l = Settled l.draft.bytes.now (draft_rows l.draft.numbers.now) l.i l.initial.table l.table
