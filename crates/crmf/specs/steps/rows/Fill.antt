-- The rows as the walk over the lines finds them, for a tree that it passes. Assumes nothing.
use Rattle.std.specs.Prelude.{ℕ, ◌+◌, ◌-◌, ◌*◌, Bool, true, false, List, [], ◌∷◌, ◌++◌, eqb, leb, length, take, None, Some, Option}
use Rattle.std.proofs.Math.Option.{get_or}
use Rattle.std.proofs.Math.Seq.{slice}
use Rattle.der.specs.meaning.Tree.{Tree, none, element}
use Rattle.der.specs.meaning.Bounds.{longest}
use Rattle.der.specs.steps.Reading.{tree}
use Rattle.crmf.specs.meaning.Lists.{over}
use Rattle.crmf.specs.declared.grammar.element.Fit.{Fit}
use Rattle.crmf.specs.declared.rows.Around.{Around}
use Rattle.crmf.specs.declared.rows.Entry.{Entry}
use Rattle.crmf.specs.declared.rows.Numbers.{Numbers}
use Rattle.crmf.specs.declared.rows.Spot.{Spot}
use Rattle.crmf.specs.meaning.Value.{selected}
use Rattle.crmf.specs.meaning.Notation.{among, Top, Time, AlgId, Spki, OneName, Extension}
use Rattle.crmf.specs.steps.grammar.Lines.{Judge, keep, choose, Line, start}
use Rattle.crmf.specs.steps.explain.Walk.{line, find_line, ways, rows_of_kind as rowsGiven}
use Rattle.crmf.specs.meaning.Rows.{Row, Extent, extent_of, no_extent, row_with, row_if, parent_if, width, numbers}
use Rattle.crmf.specs.steps.rows.Packing.{packed_rows}

-- the line to go on with after an element whose value is known to keep its rule; as in the code, a value that selects no way would take the
-- line after those of the ways
unfoldable pub goes : Judge → ℕ → List ℕ → ℕ
goes (keep r) next c = next
goes (choose s) next c = (line (next + get_or (selected s c) (ways s))).next

-- the rows from a line on, as `rows` has them from the parts
unfoldable pub rows_from : ℕ → Tree → (n up : ℕ) (extent : Extent) → List Row
rows_from k none n up extent = []
rows_from k (element id p w c inside rest) n up extent =
    elim (find_line k id) [
      | None ↦ []
      | Some m ↦
          let x = line m in
          let item = row_if x.item extent up in
          let above = parent_if x.item n up in
          let here = extent_of p w c in
          let own = row_if x.kind here above in
          let next = n + length item in
          let inner : List Row = elim (eqb x.inside 0) [
            | true ↦ []
            | false ↦ rows_from x.inside inside (next + length own) (parent_if x.kind next above) here
          ] in
          item ++ (own ++ (inner ++ rows_from (goes x.judge x.next c) rest (next + length own + length inner) up extent))
    ]

-- whether the lines of an inside give no row: it is free, or the inside of a container without rows
unfoldable pub rowless : ℕ → Bool
rowless k = among (0 ∷ start Time ∷ start AlgId ∷ start Spki ∷ start OneName ∷ start Extension ∷ []) k

-- A table's layout: each row packed into one number, if it is packed, or its five numbers. The place of row n, which is as many numbers as n
-- rows have, and the numbers of rows.
abbrev pub place_in : (packed : Bool) → ℕ → ℕ
place_in packed n = elim packed [ true ↦ n | false ↦ width * n ]

abbrev pub numbers_in : (packed : Bool) → List Row → List ℕ
numbers_in packed rs = elim packed [ true ↦ packed_rows rs | false ↦ numbers rs ]

-- Rows written into a table of a layout, the first as row n, as far as their numbers are below a limit.
abbrev pub written_in : (packed : Bool) → List ℕ → ℕ → ℕ → List Row → List ℕ
written_in packed old n limit rs = over old (place_in packed n) (numbers_in packed (take (limit - n) rs))

-- the same with five numbers a row
abbrev pub written : List ℕ → ℕ → ℕ → List Row → List ℕ
written = written_in false

-- whether a table has room for a count of rows
unfoldable pub fits : ℕ → List ℕ → Bool
fits count old = leb (width * count) (length old)

-- the rows of a whole input as one batch; an input that is too long has none
unfoldable pub rows_of_input : List ℕ → List Row
rows_of_input s = elim (leb (length s) longest) [ true ↦ rows_from (start Top) (tree 0 s) 0 0 no_extent | false ↦ [] ]

-- a table with the rows of an input written into it, as far as their numbers are below a count; without room for the count it stays as it is
unfoldable pub filled : List ℕ → ℕ → List ℕ → List ℕ
filled s count old = elim (fits count old) [ true ↦ written old 0 count (rows_of_input s) | false ↦ old ]

-- the extent of an entry, of the element around some rows, and of an element that fits a line
abbrev pub entry_extent : Entry → Extent
entry_extent new = record { first = new.first; whole = new.whole; content = new.content }

abbrev pub around_extent : Around → Extent
around_extent a = record { first = a.place; whole = a.whole; content = a.content }

abbrev pub fit_extent : Fit → Extent
fit_extent f = record { first = f.first; whole = f.end - f.first; content = f.content }

-- the rows of the elements from a spot to an end
abbrev pub rows_at : List ℕ → Spot → ℕ → Around → List Row
rows_at bytes spot end around =
    rows_from spot.state (tree spot.at (slice spot.at end bytes)) spot.row around.up (around_extent around)

-- the row that an entry has, if there is one
abbrev pub entry_row : Entry → Row
entry_row new = row_with new.kind (entry_extent new) new.parent

abbrev pub row_of : Option Entry → List Row
row_of None = []
row_of (Some new) = entry_row new ∷ []

-- the rows that an element in a line's form gives by itself, and the number of the row above its inside
abbrev pub own_rows : Line → Extent → ℕ → Around → List Row
own_rows x here row around =
    row_if x.item (around_extent around) around.up ++ row_if x.kind here (parent_if x.item row around.up)

abbrev pub row_above : Line → ℕ → ℕ → ℕ
row_above x row up = parent_if x.kind (row + rowsGiven x.item) (parent_if x.item row up)

-- what surrounds the rows inside an element in a line's form
abbrev pub around_inside : Line → Fit → Numbers → Around
around_inside x fit n = record { up = row_above x n.row n.up; place = fit.first; whole = fit.end - fit.first; content = fit.content }

-- the rows inside an element in a line's form
abbrev pub inner_rows : ℕ → List ℕ → ℕ → ℕ → ℕ → Around → List Row
inner_rows k bytes at end row around =
    elim (eqb (line k).inside 0) [ true ↦ [] | false ↦ rows_at bytes (record { state = (line k).inside; at = at; row = row }) end around ]
