-- The grammar's lines in one table, computed from the grammar: a line for each form of a part, in the parts' order, and a line at each
-- container's end. Assumes nothing.
use Rattle.std.specs.Prelude.{ℕ, suc, ◌+◌, List, [], ◌∷◌, ◌++◌, map, length, get_or}
use Rattle.crmf.specs.meaning.Kinds as kinds
use Rattle.crmf.specs.meaning.Value.{Rule, always, Selector}
use Rattle.crmf.specs.meaning.Notation.{Identifiers, octet, nothing, Marking, whatever, both, Name, Inside, free, holds, Form, Occurs, once, optional, repeated, Part, part, Parts, done, ◌then◌, select}
use Rattle.crmf.specs.meaning.Notation.{order, names}
use Rattle.crmf.specs.meaning.Grammar.{content}

-- How a line judges a value: by a rule, or by selecting how the container goes on.
pub data Judge : Type 0 where
  keep : Rule → Judge
  choose : Selector → Judge

-- How the search goes on at a line if the element isn't in its form: not at all, since the container ends or the part is needed; to the part's
-- next form; or over the part.
pub data Pass : Type 0 where
  ends needed another over : Pass

-- A line: an element's form, the line at which its inside starts (0: it is free), and the line to go on with after it (0: the container has no
-- further part).
pub record Line : Type 0 where
  pub identifiers : Identifiers
  pub inside : ℕ
  pub judge : Judge
  pub kind : ℕ
  pub item : ℕ
  pub marking : Marking
  pub next : ℕ
  pub pass : Pass

-- the line at a container's end
abbrev pub end_line : Line
end_line = record { identifiers = nothing; inside = 0; judge = keep always; kind = kinds.none; item = kinds.none; marking = whatever both; next = 0; pass = ends }

-- how many lines a part takes, and a container with the line at its end
unfoldable pub part_size : Part → ℕ
part_size (part o fs) = length fs

unfoldable pub size : Parts → ℕ
size done = 1
size (p then ps) = part_size p + size ps
size (select id s ns) = suc (length ns) + 1

-- the starts of some containers, which come one after the other from a line on
unfoldable pub starts_from : ℕ → List Name → List ℕ
starts_from at [] = []
starts_from at (n ∷ ns) = at ∷ starts_from (at + size (content n)) ns

-- the line at which a container starts: containers come in the order of their names, after one end line
unfoldable pub start : Name → ℕ
start n = get_or (starts_from 1 names) (order n) 0

-- the line at which an inside starts; 0 if it is free
unfoldable pub inside_line : Inside → ℕ
inside_line free = 0
inside_line (holds n) = start n

-- the pass of a form, by how often its part occurs and the forms after it
unfoldable pub pass_of : Occurs → List Form → Pass
pass_of once [] = needed
pass_of once (f ∷ fs) = another
pass_of optional fs = over
pass_of repeated fs = over

-- the lines of a part's forms; the container goes on with the line `next`
unfoldable pub form_lines : Occurs → ℕ → List Form → List Line
form_lines o next [] = []
form_lines o next (f ∷ fs) =
    record { identifiers = f.identifiers; inside = inside_line f.inside; judge = keep f.rule; kind = f.kind; item = f.item; marking = f.marking; next = next; pass = pass_of o fs }
    ∷ form_lines o next fs

-- the line of some parts that stand from a line on; if there are none, it is 0, an end line like the container's own
abbrev pub line_of : ℕ → Parts → ℕ
line_of at done = 0
line_of at (p then ps) = at
line_of at (select id s ns) = at

-- the line to go on with after an element of a part: that of the parts after it, or the part's own
unfoldable pub next_line : Occurs → (own after : ℕ) → ℕ
next_line once own after = after
next_line optional own after = after
next_line repeated own after = own

-- the line of one of the ways that a value selects: it only says where to go on
unfoldable pub way_line : Name → Line
way_line n = record { identifiers = nothing; inside = 0; judge = keep always; kind = kinds.none; item = kinds.none; marking = whatever both; next = start n; pass = needed }

-- a part's lines, from a line on; the parts after it have the line `after`
unfoldable pub part_lines : (at after : ℕ) → Part → List Line
part_lines at after (part o fs) = form_lines o (next_line o at after) fs

-- a container's lines, from a line on
unfoldable pub container_lines : ℕ → Parts → List Line
container_lines at done = end_line ∷ []
container_lines at (p then ps) = part_lines at (line_of (at + part_size p) ps) p ++ container_lines (at + part_size p) ps
container_lines at (select id s ns) =
    (record { identifiers = octet id; inside = 0; judge = choose s; kind = kinds.none; item = kinds.none; marking = whatever both; next = suc at; pass = needed } ∷ map way_line ns)
    ++ (end_line ∷ [])

-- the lines of some containers, from a line on
unfoldable pub lines_from : ℕ → List Name → List Line
lines_from at [] = []
lines_from at (n ∷ ns) = container_lines at (content n) ++ lines_from (at + size (content n)) ns

-- the table
unfoldable pub lines : List Line
lines = end_line ∷ lines_from 1 names
