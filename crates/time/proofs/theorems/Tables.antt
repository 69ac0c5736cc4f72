-- The entries of a table of numbers are at most what all of them are. Assumes nothing.
use Prim.Native.Nat.{ℕ, zero, suc, ◌≤◌, ◌<◌}
use mathlib.Core.Bool.{Bool, true, ◌&&◌, and-eq-true_iff}
use mathlib.Core.List.{List, [], ◌∷◌}
use mathlib.Core.Option.{some, some-injective, none-ne-some}
use mathlib.Core.Path.{◌≡◌}
use borrow.Author.Tests.{leb-true}
use native.Mathlib.Omega.{arith}
use lib.Dec.{leb}
use lib.ListN.{length, get_elem?}

-- whether all entries are at most a number
abbrev pub at_most : List ℕ → ℕ → Bool
at_most [] most = true
at_most (a ∷ l) most = leb a most && at_most l most

-- an entry that is there, and its number
pub entry_there : (l : List ℕ) (most : ℕ) → at_most l most ≡ true → (i a : ℕ) → get_elem? l i ≡ some a → (i < length l) × (a ≤ most)
entry_there [] most are i a is = absurd (none-ne-some a is)
entry_there (b ∷ l) most are zero a is =
    (omega arith, omega (arith, leb-true b most ((and-eq-true_iff (leb b most) (at_most l most)).0 are).0, some-injective b a is))
entry_there (b ∷ l) most are (suc i) a is =
    let p = entry_there l most ((and-eq-true_iff (leb b most) (at_most l most)).0 are).1 i a is in (omega (arith, p.0), p.1)
