-- An octet has at least u trailing zero bits exactly if 2 ^ u divides it: computed at every u below 8 and every octet. Assumes nothing.
use Prim.Native.Nat.{ℕ, ◌%◌, ◌^◌, ◌<◌}
use mathlib.Core.Bool.{Bool, true, beq}
use mathlib.Core.Path.{◌≡◌, refl}
use lib.Count.{count_trailing_zeros}
use lib.Dec.{leb, eqb}
use Rattle.der.proofs.theorems.lists.Range.{every, each, same}

-- the two ways to count agree at u and b
right : ℕ → ℕ → Bool
right u b = beq (leb u (count_trailing_zeros 8 b)) (eqb (b % 2 ^ u) 0)

-- they agree at all of them, which is computed
all_right : every 8 (λ u. every 256 (right u)) ≡ true
unfolding right count_trailing_zeros
all_right = refl

-- as many trailing zero bits as u, exactly if 2 ^ u divides
pub divides : (u b : ℕ) → u < 8 → b < 256 → leb u (count_trailing_zeros 8 b) ≡ eqb (b % 2 ^ u) 0
unfolding right
divides u b hu hb = same _ _ (each 256 (right u) (each 8 (λ u. every 256 (right u)) all_right u hu) b hb)
