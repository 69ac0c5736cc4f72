-- Operations on lists of numbers, which the definitions in other files use. Assumes nothing.
use Rattle.std.specs.Prelude.{ℕ, ◌+◌, Bool, true, false, ◌&&◌, List, [], ◌∷◌, ◌++◌, eqb, length, take, drop}

-- a list with other numbers written over it from a place on
unfoldable pub over : List ℕ → ℕ → List ℕ → List ℕ
over old at new = take at old ++ (new ++ drop (at + length new) old)

-- whether two lists have the same numbers
unfoldable pub same : List ℕ → List ℕ → Bool
same [] [] = true
same [] (b ∷ bs) = false
same (a ∷ more) [] = false
same (a ∷ more) (b ∷ bs) = eqb a b && same more bs
