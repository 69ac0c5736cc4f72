-- The `read_all` of `lines::line::Line` meets its contract: once the heading is read, the characters that are left are the case's. Assumes nothing.
use Rattle.std.proofs.Common.{ap, ◌∙◌, rules}
use Rattle.cases.specs.declared.case.Case.{Case}
use Rattle.lines.specs.Line.{line_of}
use Rattle.lines.proofs.Octets.{all_octets}
use Rattle.lines.proofs.line.LineReading.read_all.Goals as goal

pub returns-then-eq : goal.returns-then-eq
returns-then-eq c =
    let line = c.loop-c.self in
    ap (λ (case : Case). line_of line.heading line.list case) c.read_all.ensures ∙ all_octets line c.loop-c.rest.now (search rules) ∙ c.loop-c.invariant
