-- What the `read_all` of `cases::case::Case` keeps: reading the characters that are left, after those read, gives the whole. Assumes nothing.
use Rattle.std.proofs.Common.{◌≡◌, drop}
use Rattle.std.specs.List.{fold}
use Rattle.cases.specs.Reading.{case_of, read_next}
use Rattle.cases.proofs.case.CaseReading.read_all.Given as goal

abbrev pub invariant-loop-c : goal.invariant-loop-c
invariant-loop-c l = fold read_next (case_of l.progress l.self.filled.room) (drop l.c-index l.text) ≡ fold read_next l.fn.self l.text
