-- The numbers of an entry, by the change that the code tells. Assumes nothing.
use Rattle.std.specs.Prelude.{◌≤◌, List, [], ◌∷◌, ℤ, pos, FitsSigned}
use mir.Syntax.{w64}
use Rattle.compare.specs.declared.entries.Change.{Change}
use Rattle.compare.specs.declared.entries.Change.TheVariants.{OnlyFirst, OnlySecond, LeavesDiffer}

-- the rows are a batch's, and the seconds have 64 bits
abbrev pub Small : Change → Type 0
Small (OnlyFirst i) = i ≤ 65535
Small (OnlySecond j) = j ≤ 65535
Small (LeavesDiffer i j seconds) = (i ≤ 65535) × (j ≤ 65535) × FitsSigned w64 seconds

abbrev pub numbers_of : Change → List ℤ
numbers_of (OnlyFirst i) = pos 1 ∷ pos i ∷ pos 0 ∷ pos 0 ∷ []
numbers_of (OnlySecond j) = pos 2 ∷ pos 0 ∷ pos j ∷ pos 0 ∷ []
numbers_of (LeavesDiffer i j seconds) = pos 3 ∷ pos i ∷ pos j ∷ seconds ∷ []
