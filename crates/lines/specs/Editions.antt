-- The editions that a line is judged in. Assumes nothing.
use Rattle.std.specs.Prelude.{ℕ, Option, Some, None, List, [], ◌∷◌}

-- the edition that a line names, or two if it names none
abbrev pub editions_of : Option ℕ → ℕ → ℕ → List ℕ
editions_of (Some edition) one other = edition ∷ []
editions_of None one other = one ∷ other ∷ []
