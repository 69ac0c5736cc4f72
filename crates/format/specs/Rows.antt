-- The numbers of a table as text, a row to a line. Assumes nothing.
use Rattle.std.specs.Prelude.{ℕ, suc, ◌-◌, ◌%◌, true, false, List, [], ◌∷◌, ◌++◌, eqb}
use Rattle.format.specs.Decimal.{decimal}

-- what follows the number at a place: a line's end after the last number of a row, and a space after any other; a row has at least one
unfoldable pub mark : ℕ → ℕ → ℕ
mark width i = elim (eqb width 0) [ true ↦ 0x0A | false ↦ elim (eqb (i % width) (width - 1)) [ true ↦ 0x0A | false ↦ 0x20 ] ]

-- each number with what follows it; the second argument is the first number's place
unfoldable pub rows_from : ℕ → ℕ → List ℕ → List ℕ
rows_from width i [] = []
rows_from width i (n ∷ rest) = decimal n ++ (mark width i ∷ rows_from width (suc i) rest)

unfoldable pub rows_text : ℕ → List ℕ → List ℕ
rows_text width numbers = rows_from width 0 numbers
