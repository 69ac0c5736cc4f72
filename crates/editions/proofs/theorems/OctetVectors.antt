-- For worked examples: that some numbers are octets, by a test, and a fact of each entry from another. Assumes nothing.
use Prim.Native.Nat.{ℕ, zero, suc, ◌<◌}
use mathlib.Core.Path.{◌≡◌}
use mathlib.Core.Bool.{Bool, true, ◌&&◌, and-eq-true_iff}
use mathlib.Core.List.{List, [], ◌∷◌}
use native.Mathlib.Omega.{arith}
use lib.Dec.{ltb}
use lib.ListN.{get_or}
use borrow.Author.Tests.{ltb-true}
use Rattle.der.specs.examples.Each.{Each}
use Rattle.der.specs.meaning.Octets.{Octets}
use Rattle.der.proofs.Laws.{octets_each}

-- whether every number is an octet
unfoldable pub are_octets : List ℕ → Bool
are_octets [] = true
are_octets (b ∷ bs) = ltb b 256 && are_octets bs

tested : (bs : List ℕ) → are_octets bs ≡ true → (i : ℕ) → get_or bs i 0 < 256
unfolding are_octets
tested [] t i = omega arith
tested (b ∷ bs) t zero = ltb-true b 256 ((and-eq-true_iff (ltb b 256) (are_octets bs)).0 t).0
tested (b ∷ bs) t (suc i) = tested bs ((and-eq-true_iff (ltb b 256) (are_octets bs)).0 t).1 i

pub test_octets : (bs : List ℕ) → are_octets bs ≡ true → Octets bs
test_octets bs t = octets_each bs (tested bs t)

-- what follows of each entry, from what is known of it
pub each_of : {A : Type 0} (P Q : A → Type 0) → ((x : A) → P x → Q x) → (xs : List A) → Each P xs → Each Q xs
each_of P Q f [] p = tt
each_of P Q f (x ∷ xs) p = (f x p.0, each_of P Q f xs p.1)
