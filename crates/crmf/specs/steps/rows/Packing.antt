-- A row packed into one number: its kind, first byte, whole length and parent's row, each modulo the room that it has, added up by weight, and
-- each read back. The content's first byte isn't in it. src/rows/packed.rt has the same names. Assumes nothing.
use Rattle.std.specs.Prelude.{ℕ, ◌+◌, ◌*◌, ◌/◌, ◌%◌, List, map}
use Rattle.crmf.specs.meaning.Rows.{Row}

-- the room of each field: kinds are below the one; places, lengths and row numbers are below the other
abbrev pub kinds : ℕ
kinds = 128

abbrev pub places : ℕ
places = 65536

-- their weights, from the lowest up; the kind weighs 1
abbrev pub first_weight : ℕ
first_weight = kinds

abbrev pub whole_weight : ℕ
whole_weight = first_weight * places

abbrev pub parent_weight : ℕ
parent_weight = whole_weight * places

-- a row as one number
unfoldable pub pack_row : Row → ℕ
pack_row r =
    r.kind % kinds
    + first_weight * (r.first % places)
    + whole_weight * (r.whole % places)
    + parent_weight * (r.parent % places)

-- rows, each as one number
unfoldable pub packed_rows : List Row → List ℕ
packed_rows = map pack_row

-- the fields of a packed row
unfoldable pub kind_of : ℕ → ℕ
kind_of w = w % kinds

unfoldable pub first_of : ℕ → ℕ
first_of w = w / first_weight % places

unfoldable pub whole_of : ℕ → ℕ
whole_of w = w / whole_weight % places

unfoldable pub parent_of : ℕ → ℕ
parent_of w = w / parent_weight % places
