-- The rows of a draft: how many there are, and which numbers each has. Assumes nothing.
use Prim.Native.Nat.{ℕ, zero, suc, ◌+◌, ◌*◌, ◌/◌, ◌≤◌, ◌<◌}
use native.Mathlib.Omega.{arith}
use mathlib.Core.Path.{◌≡◌, refl, sym, ap, ◌∙◌}
use mathlib.Core.List.{List, [], ◌∷◌}
use lib.ListN.{length, get_or, drop}
use lib.Seq.{drop-cons}
use Rattle.crmf.specs.meaning.Rows.{Row, width, numbers}
use Rattle.crmf.specs.steps.rows.Agree.{draft_rows, row_from}
use Rattle.crmf.proofs.theorems.rows.RowsInPlace.{absent_row}

-- there are as many rows as their width goes into the numbers
pub rows_by_width : (d : List ℕ) → length (draft_rows d) ≡ length d / width
unfolding draft_rows
rows_by_width [] = refl
rows_by_width (k ∷ []) = refl
rows_by_width (k ∷ p ∷ []) = refl
rows_by_width (k ∷ p ∷ w ∷ []) = refl
rows_by_width (k ∷ p ∷ w ∷ u ∷ []) = refl
rows_by_width (k ∷ p ∷ w ∷ u ∷ c ∷ more) = omega (arith, rows_by_width more)

-- a draft has the numbers of each row
pub rows_room : (d : List ℕ) → width * length (draft_rows d) ≤ length d
rows_room d = omega (arith, rows_by_width d)

-- the same row in a list that begins a row earlier
row_further : (k p w u c : ℕ) (d : List ℕ) (i : ℕ) → row_from (k ∷ p ∷ w ∷ u ∷ c ∷ d) (width * suc i) ≡ row_from d (width * i)
row_further k p w u c d i =
    let at : width * suc i ≡ suc (suc (suc (suc (suc (width * i))))) = omega arith in
    let one : width * suc i + 1 ≡ suc (suc (suc (suc (suc (width * i + 1))))) = omega arith in
    let two : width * suc i + 2 ≡ suc (suc (suc (suc (suc (width * i + 2))))) = omega arith in
    let three : width * suc i + 3 ≡ suc (suc (suc (suc (suc (width * i + 3))))) = omega arith in
    let four : width * suc i + 4 ≡ suc (suc (suc (suc (suc (width * i + 4))))) = omega arith in
    rw (one, two, three, four, at)

-- a row's numbers
row_numbers : (d : List ℕ) (i : ℕ) → i < length (draft_rows d) → get_or (draft_rows d) i absent_row ≡ row_from d (width * i)
unfolding draft_rows
row_numbers [] i there = absurd (omega arith)
row_numbers (k ∷ []) i there = absurd (omega arith)
row_numbers (k ∷ p ∷ []) i there = absurd (omega arith)
row_numbers (k ∷ p ∷ w ∷ []) i there = absurd (omega arith)
row_numbers (k ∷ p ∷ w ∷ u ∷ []) i there = absurd (omega arith)
row_numbers (k ∷ p ∷ w ∷ u ∷ c ∷ more) zero there = refl
row_numbers (k ∷ p ∷ w ∷ u ∷ c ∷ more) (suc i) there = rw (row_further k p w u c more i) (row_numbers more i (omega arith))

-- the rows from number i on begin with the row of its numbers
pub row_cut : (d : List ℕ) (i : ℕ) → i < length (draft_rows d) → drop i (draft_rows d) ≡ row_from d (width * i) ∷ drop (suc i) (draft_rows d)
row_cut d i there = drop-cons (draft_rows d) i absent_row there ∙ ap (λ (r : Row). r ∷ drop (suc i) (draft_rows d)) (row_numbers d i there)

-- the numbers of rows are a draft with these rows
pub rows_back : (rs : List Row) → draft_rows (numbers rs) ≡ rs
unfolding draft_rows numbers
rows_back [] = refl
rows_back (r ∷ rs) = ap (λ (more : List Row). r ∷ more) (rows_back rs)

-- so rows with the same numbers are the same
pub numbers_once : (rs qs : List Row) → numbers rs ≡ numbers qs → rs ≡ qs
numbers_once rs qs is = sym (rows_back rs) ∙ ap draft_rows is ∙ rows_back qs

-- a draft without numbers to spare is the numbers of its rows
pub numbers_back : (d : List ℕ) → width * length (draft_rows d) ≡ length d → numbers (draft_rows d) ≡ d
unfolding draft_rows numbers
numbers_back [] is = refl
numbers_back (k ∷ []) is = absurd (omega arith)
numbers_back (k ∷ p ∷ []) is = absurd (omega arith)
numbers_back (k ∷ p ∷ w ∷ []) is = absurd (omega arith)
numbers_back (k ∷ p ∷ w ∷ u ∷ []) is = absurd (omega arith)
numbers_back (k ∷ p ∷ w ∷ u ∷ c ∷ more) is = ap (λ (l : List ℕ). k ∷ p ∷ w ∷ u ∷ c ∷ l) (numbers_back more (omega arith))
