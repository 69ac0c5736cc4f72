-- A line as far as it has been read, with the numbers of its list and the octets of its case, after the next character. Assumes nothing.
use Rattle.std.specs.Prelude.{ℕ, List}
use Rattle.cases.specs.Reading.{started, restarted, read_next}
use Rattle.cases.specs.declared.case.Case.{Case}
use Rattle.lines.specs.declared.heading.Part.TheVariants.{Edition, Number, List as ListPart, Octets}
use Rattle.lines.specs.declared.heading.Heading.{Heading}
use Rattle.lines.specs.declared.line.Line.{Line}
use Rattle.lines.specs.Heading.{blank, heading_next}

abbrev pub line_of : Heading → List ℕ → Case → Line
line_of heading list case = record { heading = heading; list = list; case = case }

-- a line of which nothing is read yet, whatever its list holds; and one that begins anew in the room and the list of another
abbrev pub blank_line : List ℕ → Line
blank_line list = line_of blank list started

abbrev pub fresh_line : Line → Line
fresh_line line = line_of blank line.list (restarted line.case)

-- a line whose heading has a character more
abbrev pub with_heading : Line → ℕ → Line
with_heading line c = line_of (heading_next line.heading c line.list).0 (heading_next line.heading c line.list).1 line.case

-- A character belongs to the octets if the heading is read, and otherwise to the heading; what it doesn't belong to stays as it is.
unfoldable pub line_next : Line → ℕ → Line
line_next line c =
    elim line.heading.part [
      | Octets ↦ line_of line.heading line.list (read_next line.case c)
      | Edition ↦ with_heading line c
      | Number ↦ with_heading line c
      | ListPart ↦ with_heading line c
    ]
