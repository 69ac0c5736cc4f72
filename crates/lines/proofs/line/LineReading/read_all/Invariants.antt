-- What the `read_all` of `lines::line::Line` keeps: reading the characters that are left, after those read, gives the whole. Assumes nothing.
use Rattle.std.proofs.Common.{◌≡◌, length}
use Rattle.std.specs.List.{fold}
use Rattle.lines.specs.Line.{line_next}
use Rattle.lines.proofs.line.LineReading.read_all.Given as goal

abbrev pub invariant-loop-c : goal.invariant-loop-c
invariant-loop-c l = fold line_next l.self l.rest ≡ fold line_next l.fn.self l.text

abbrev pub decreases-loop-c : goal.decreases-loop-c
decreases-loop-c l = length l.rest
