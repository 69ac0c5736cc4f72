-- `der::content::bit_string` meets its contract: the octet at the last place is the definition's last, and has the
-- trailing zero bits exactly if the power of two divides it. Assumes nothing.
use Prim.Native.Nat.{ℕ, ◌-◌, ◌<◌}
use mathlib.Core.Bool.{Bool, true, false, ◌&&◌}
use mathlib.Core.List.{List, [], ◌∷◌}
use mathlib.Core.Path.{◌≡◌, refl, sym, ap}
use borrow.Author.Tests.{leb-true}
use native.Mathlib.Omega.{arith}
use lib.Count.{count_trailing_zeros}
use lib.Dec.{leb}
use lib.ListN.{length, get_or}
use Rattle.der.specs.meaning.Octets.{Octets}
use Rattle.der.specs.meaning.Content.{last_of, bit_string}
use Rattle.der.proofs.theorems.lists.Ends.{none, one, last}
use Rattle.der.proofs.theorems.lists.Parts.{octets_each}
use Rattle.der.proofs.theorems.content.TrailingZeros.{divides}
use Rattle.der.proofs.content.bit_string.Goals as goal

-- two tests that are equal if a third passes are equal after it
after_test : (t a b : Bool) → (t ≡ true → a ≡ b) → t && a ≡ t && b
after_test true a b h = h refl
after_test false a b h = refl

long : (xs : List ℕ) → Octets xs → 1 < length xs
    → leb (get_or xs 0 0) 7 && leb (get_or xs 0 0) (count_trailing_zeros 8 (get_or xs (length xs - 1) 0)) ≡ bit_string xs
unfolding bit_string last_of Octets
long [] o h = absurd (omega arith)
long (u ∷ []) o h = absurd (omega arith)
long (u ∷ b ∷ bs) o h =
    rw (last 0 (u ∷ b ∷ bs) (omega arith)) (after_test (leb u 7) _ _ (λ t. divides u _ (omega (arith, leb-true u 7 t)) (o (length (u ∷ b ∷ bs) - 1))))

pub returns-in-empty : goal.returns-in-empty
unfolding bit_string
returns-in-empty c = sym (ap bit_string (none c.args.content.now (omega (arith, c.in-empty.len_below))))

pub returns-in-len1 : goal.returns-in-len1
unfolding bit_string
returns-in-len1 c = sym (ap bit_string (one c.args.content.now (omega (arith, c.in-len1.len_at_least, c.in-len1.len_below))))

pub returns-in-len2-up : goal.returns-in-len2-up
returns-in-len2-up c =
    let content = c.args.content.now in
    long content (octets_each content (λ i. (c.type_inv.content i).fits)) (omega (arith, c.in-len2-up.len_at_least))
