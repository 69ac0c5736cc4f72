-- A draft's rows compared with those of a batch, row by row. Assumes nothing.
use Rattle.std.specs.Prelude.{ℕ, suc, ◌+◌, ◌-◌, Bool, true, false, ◌&&◌, ◌||◌, List, [], ◌∷◌, eqb, get_or, drop, Option, Some, None}
use Rattle.crmf.specs.meaning.Rows.{Row, container}

-- the rows of a draft, each `width` of its numbers; fewer after the last row are ignored
unfoldable pub draft_rows : List ℕ → List Row
draft_rows [] = []
draft_rows (k ∷ []) = []
draft_rows (k ∷ p ∷ []) = []
draft_rows (k ∷ p ∷ w ∷ []) = []
draft_rows (k ∷ p ∷ w ∷ u ∷ []) = []
draft_rows (k ∷ p ∷ w ∷ u ∷ c ∷ more) = record { kind = k; first = p; whole = w; parent = u; content = c } ∷ draft_rows more

-- the row of the numbers from a place on
abbrev pub row_from : List ℕ → ℕ → Row
row_from d at =
    record { kind = get_or d at 0; first = get_or d (at + 1) 0; whole = get_or d (at + 2) 0; parent = get_or d (at + 3) 0; content = get_or d (at + 4) 0 }

-- two rows stand at the same place
abbrev pub is_same_place : Row → Row → Bool
is_same_place r q = (eqb r.first q.first && eqb r.whole q.whole) && eqb r.content q.content

-- containers' places and lengths are ignored; two leaves are equally long, and so are their headers
abbrev pub same_lengths : Row → Row → Bool
same_lengths r q = container q.kind || (eqb r.whole q.whole && eqb (r.content - r.first) (q.content - q.first))

-- A draft's row and a batch's agree: in place, all their numbers are the same; otherwise their kinds, parents and lengths are.
abbrev pub agrees : Bool → Row → Row → Bool
agrees inPlace r q =
    eqb r.kind q.kind && (eqb r.parent q.parent && elim inPlace [ true ↦ is_same_place r q | false ↦ same_lengths r q ])

-- as many rows agree, each with the other at its number
unfoldable pub agree : Bool → List Row → List Row → Bool
agree inPlace [] [] = true
agree inPlace [] (q ∷ qs) = false
agree inPlace (r ∷ rs) [] = false
agree inPlace (r ∷ rs) (q ∷ qs) = agrees inPlace r q && agree inPlace rs qs

-- whether the first of some of a draft's rows, if there is one, agrees with a row
abbrev pub first_agrees : Bool → List Row → Row → Bool
first_agrees inPlace [] q = false
first_agrees inPlace (r ∷ rs) q = agrees inPlace r q

-- Some rows are compared with a draft's from number n on: the number after them if all agree, else none.
unfoldable pub passed : Bool → List Row → ℕ → List Row → Option ℕ
passed inPlace rs n [] = Some n
passed inPlace rs n (q ∷ qs) = elim (first_agrees inPlace (drop n rs) q) [ true ↦ passed inPlace rs (suc n) qs | false ↦ None ]
