-- `der::content::boolean` meets its contract: one octet is judged as the definition does, and any other
-- length is refused. Assumes nothing.
use Prim.Native.Nat.{ℕ}
use mathlib.Core.Bool.{false}
use mathlib.Core.List.{List, [], ◌∷◌}
use mathlib.Core.Path.{◌≡◌, refl, sym, ap}
use native.Mathlib.Omega.{arith}
use lib.ListN.{length}
use Rattle.der.specs.meaning.Content.{boolean}
use Rattle.der.proofs.theorems.lists.Ends.{one}
use Rattle.der.proofs.content.boolean.Goals as goal

other_length : (xs : List ℕ) → (length xs ≡ 1 → ⊥) → false ≡ boolean xs
unfolding boolean
other_length [] h = refl
other_length (x ∷ []) h = absurd (h refl)
other_length (x ∷ y ∷ xs) h = refl

pub returns-in_default : goal.returns-in_default
returns-in_default c = other_length _ (λ e. omega (arith, c.in_default.len_below))

pub returns-in_default-2 : goal.returns-in_default-2
returns-in_default-2 c = other_length _ (λ e. omega (arith, c.in_default.len_at_least))

pub returns : goal.returns
unfolding boolean
returns c = sym (ap boolean (one c.args.content.now (omega (arith, c.in-len1.len_at_least, c.in-len1.len_below))))
