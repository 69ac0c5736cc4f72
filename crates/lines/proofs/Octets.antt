-- The octets of a line, character by character. Assumes nothing.
use Rattle.std.specs.Prelude.{ℕ, ◌≡◌, List, [], ◌∷◌, refl}
use Rattle.std.specs.List.{fold}
use Rattle.cases.specs.declared.case.Case.{Case}
use Rattle.cases.specs.Reading.{read_next}
use Rattle.lines.specs.declared.heading.Part.TheVariants.{Octets}
use Rattle.lines.specs.declared.line.Line.{Line}
use Rattle.lines.specs.Line.{line_of, line_next}

next_octet : (line : Line) (c : ℕ) → line.heading.part ≡ Octets → line_next line c ≡ line_of line.heading line.list (read_next line.case c)
unfolding line_next
next_octet line c octets = rw octets

-- once the heading is read, all characters belong to the case
pub all_octets : (line : Line) (text : List ℕ) → line.heading.part ≡ Octets
    → line_of line.heading line.list (fold read_next line.case text) ≡ fold line_next line text
all_octets line [] octets = refl
all_octets line (c ∷ text) octets =
    rw (next_octet line c octets) (all_octets (line_of line.heading line.list (read_next line.case c)) text octets)
