-- What `cases::case::Progress::push_part` keeps: adding the octets that are left to those added gives the whole. Assumes nothing.
use Rattle.std.proofs.Common.{◌≡◌, ◌-◌}
use Rattle.cases.specs.Reading.{case_of}
use Rattle.cases.proofs.Steps.{part_added}
use Rattle.cases.proofs.case.Progress.push_part.Given as goal

abbrev pub invariant-loop-i : goal.invariant-loop-i
invariant-loop-i l = part_added (l.to - l.i) l.i (case_of l.self l.room) ≡ part_added (l.to - l.from) l.from (case_of l.fn.self l.fn.room)
