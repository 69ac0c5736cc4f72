-- The ends of a list: a short list and the first two elements of a longer one, by its length; and the last element, by its place.
-- Assumes nothing.
use Prim.Native.Nat.{ℕ, ◌-◌, ◌<◌}
use mathlib.Core.Path.{◌≡◌, refl, sym, ◌∙◌}
use mathlib.Core.List.{List, [], ◌∷◌}
use native.Mathlib.Numerals.{sub-one}
use native.Mathlib.Omega.{arith}
use mathlib.Core.Bool.{Bool, true, false}
use lib.Dec.{eqb}
use borrow.Author.Tests.{eqb-true, eqb-false}
use lib.ListN.{length, get_or, drop}
use Rattle.der.specs.meaning.Content.{last_of}

-- a list of no elements
pub none : (xs : List ℕ) → length xs ≡ 0 → xs ≡ []
none [] h = refl
none (x ∷ xs) h = absurd (omega arith)

-- a list of one element
pub one : (xs : List ℕ) → length xs ≡ 1 → xs ≡ get_or xs 0 0 ∷ []
one [] h = absurd (omega arith)
one (x ∷ []) h = refl
one (x ∷ y ∷ xs) h = absurd (omega arith)

-- a list of two elements or more
pub two : (xs : List ℕ) → 1 < length xs → xs ≡ get_or xs 0 0 ∷ get_or xs 1 0 ∷ drop 2 xs
two [] h = absurd (omega arith)
two (x ∷ []) h = absurd (omega arith)
two (x ∷ y ∷ xs) h = refl

-- the last element is at the last place
pub last : (b : ℕ) (xs : List ℕ) → 0 < length xs → last_of b xs ≡ get_or xs (length xs - 1) 0
unfolding last_of
last b [] h = absurd (omega arith)
last b (c ∷ []) h = refl
last b (c ∷ d ∷ xs) h = last c (d ∷ xs) (omega arith) ∙ simp sub-one

-- a list that its test doesn't find empty has an element
pub filled : (xs : List ℕ) {empty : Bool} → empty ≡ eqb (length xs) 0 → empty ≡ false → 0 < length xs
filled xs is some = let other = eqb-false (length xs) 0 (sym is ∙ some) in omega arith

-- and one that it finds empty has none
pub empty : (xs : List ℕ) {empty : Bool} → empty ≡ eqb (length xs) 0 → empty ≡ true → xs ≡ []
empty xs is all = none xs (eqb-true (length xs) 0 (sym is ∙ all))
