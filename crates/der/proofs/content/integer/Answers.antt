-- `der::content::integer` meets its contract: two octets or more are judged as the definition does, and fewer by
-- their number. Assumes nothing.
use Prim.Native.Nat.{ℕ, ◌<◌}
use mathlib.Core.List.{List, [], ◌∷◌}
use mathlib.Core.Path.{◌≡◌, refl, sym, ap}
use native.Mathlib.Omega.{arith}
use lib.Dec.{eqb}
use lib.ListN.{length}
use Rattle.der.specs.meaning.Content.{integer}
use Rattle.der.proofs.theorems.lists.Ends.{two}
use Rattle.der.proofs.content.integer.Goals as goal

short : (xs : List ℕ) → length xs < 2 → eqb (length xs) 1 ≡ integer xs
unfolding integer
short [] h = refl
short (x ∷ []) h = refl
short (x ∷ y ∷ xs) h = absurd (omega arith)

pub returns-in_default : goal.returns-in_default
returns-in_default c = short _ (omega (arith, c.in_default.len_below))

pub returns : goal.returns
unfolding integer
returns c = sym (ap integer (two c.args.content.now (omega (arith, c.in-len2-up.len_at_least))))
