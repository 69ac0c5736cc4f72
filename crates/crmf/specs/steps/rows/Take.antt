-- Rows handed to a taker one after another, which may write into a table: what the inner functions of the walk require and answer. Assumes nothing.
use Rattle.std.specs.Prelude.{ℕ, suc, ◌*◌, ◌/◌, ◌≤◌, ◌<◌, Bool, true, false, List, [], ◌∷◌, ◌≡◌, ◌⊎◌, length, Option, Some, None, IfSome}
use Rattle.der.specs.meaning.Bounds.{longest}
use Rattle.crmf.specs.declared.grammar.element.Fit.{Fit}
use Rattle.crmf.specs.declared.rows.Around.{Around}
use Rattle.crmf.specs.declared.rows.Numbers.{Numbers}
use Rattle.crmf.specs.declared.rows.Spot.{Spot}
use Rattle.crmf.specs.meaning.Rows.{Row, width}
use Rattle.crmf.specs.steps.explain.Walk.{line}
use Rattle.crmf.specs.steps.rows.Fill.{rows_at, inner_rows, around_inside, written_in}

-- How a taker takes a row: its number, the row, the table before, whether it goes on, and the table after.
abbrev pub Takes : Type 1
Takes = ℕ → Row → List ℕ → Bool → List ℕ → Type 0

-- Some rows are taken from a number on, each by its number, until the taker doesn't go on: the number after them if all are taken, else none.
unfoldable pub Took : Takes → ℕ → List Row → List ℕ → Option ℕ → List ℕ → Type 0
Took takes n [] old r new = (r ≡ Some n) × (new ≡ old)
Took takes n (q ∷ qs) old r new =
    (takes n q old false new × (r ≡ None)) ⊎ ((mid : List ℕ) × takes n q old true mid × Took takes (suc n) qs mid r new)

-- how many rows a table of a layout has room for
abbrev pub rows_in : (packed : Bool) → List ℕ → ℕ
rows_in isPacked old = elim isPacked [ true ↦ length old | false ↦ length old / width ]

-- a row is written into a table of a layout, if there is room for it
abbrev pub Writes : (packed : Bool) → Takes
Writes isPacked n q old b new = (b ≡ true) × (new ≡ written_in isPacked old n (rows_in isPacked old) (q ∷ []))

-- What the inner functions are lent: a part of an input, the number of the next row, at most two for each byte before it.
pub record Lent (bytes : List ℕ) (at end row : ℕ) : Type 0 where
  pub short : length bytes ≤ longest
  pub order : at ≤ end
  pub inside : end ≤ length bytes
  pub few : row ≤ 2 * at

-- the rows of the elements from a spot to an end are taken
abbrev pub TookFrom : Takes → List ℕ → ℕ → Around → Spot → List ℕ → Option ℕ → List ℕ → Type 0
TookFrom takes bytes end around spot = Took takes spot.row (rows_at bytes spot end around)

-- The rows of a list of elements are taken.
pub record Listed (takes : Takes) (bytes : List ℕ) (spot : Spot) (end : ℕ) (around : Around) (old : List ℕ) (r : Option ℕ) (new : List ℕ) : Type 0 where
  pub took : TookFrom takes bytes end around spot old r new
  pub few : IfSome r (λ next. next ≤ 2 * end)

-- the rows inside an element in a line's form are taken
abbrev pub Inner : Takes → ℕ → List ℕ → Fit → Numbers → List ℕ → Option ℕ → List ℕ → Type 0
Inner takes k bytes fit n = Took takes n.next (inner_rows k bytes fit.content fit.end n.next (around_inside (line k) fit n))

-- what has come of the rows from a spot on, after some of them: with those from the spot reached, all are taken
abbrev pub TookTo : Takes → List ℕ → ℕ → Around → Spot → List ℕ → Option Spot → List ℕ → Type 0
TookTo takes bytes end around spot old (Some x) mid =
    (r : Option ℕ) (new : List ℕ) → TookFrom takes bytes end around x mid r new → TookFrom takes bytes end around spot old r new
TookTo takes bytes end around spot old None new = TookFrom takes bytes end around spot old None new

-- A spot further on, within the end, with at most two rows for each byte.
abbrev pub Forward : ℕ → ℕ → Spot → Type 0
Forward at end spot = (at < spot.at) × (spot.at ≤ end) × (spot.row ≤ 2 * spot.at)

-- The step over the element at a spot.
pub record Stepped (takes : Takes) (bytes : List ℕ) (spot : Spot) (end : ℕ) (around : Around) (old : List ℕ) (r : Option Spot) (new : List ℕ) : Type 0 where
  pub took : TookTo takes bytes end around spot old r new
  pub forward : IfSome r (Forward spot.at end)
