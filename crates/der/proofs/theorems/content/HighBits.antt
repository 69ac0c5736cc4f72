-- The highest bits of octets that are joined to one number: they are all 0 exactly if each octet is below 80. The number and its mask are
-- taken apart octet by octet, and of one octet all 256 cases are computed. Assumes nothing.
use Prim.Native.Nat.{ℕ, zero, suc, ◌+◌, ◌*◌, ◌<◌, suc-le-suc}
use mathlib.Core.Bool.{beq}
use mathlib.Core.Logic.{◌↔◌}
use mathlib.Core.Path.{◌≡◌, refl, sym, ap, ◌∙◌}
use native.Mathlib.Nat.{not-suc-le-zero, le_of_suc-le-suc, zero-lt-suc}
use native.Mathlib.Omega.{arith}
use borrow.Author.Tests.{ltb-true, eqb-true, lt-ltb}
use lib.Bits.{bit_and, and_block}
use lib.Dec.{ltb, eqb}
use Rattle.der.specs.meaning.Eights.{Ascii}
use Rattle.der.specs.steps.Utf8Classes.{little_endian}
use Rattle.der.proofs.theorems.lists.Range.{each, same}

-- 80 in each of n octets
abbrev pub high_bits : ℕ → ℕ
high_bits zero = 0
high_bits (suc n) = high_bits n * 0x100 + 0x80

-- of one octet, computed
test : (b : ℕ) → b < 0x100 → eqb (bit_and b 0x80) 0 ≡ ltb b 0x80
test b h = same _ _ (each 0x100 (λ b. beq (eqb (bit_and b 0x80) 0) (ltb b 0x80)) refl b h)

-- the highest bit of an octet is 0 exactly if it is below 80
clear_one : (b : ℕ) → b < 0x100 → (bit_and b 0x80 ≡ 0) ↔ Ascii b
clear_one b h = (λ e. ltb-true b 0x80 (sym (test b h) ∙ ap (λ (m : ℕ). eqb m 0) e), λ a. eqb-true (bit_and b 0x80) 0 (test b h ∙ lt-ltb b 0x80 a))

-- the first octet and the others apart
apart : (n : ℕ) (at : ℕ → ℕ) → at 0 < 0x100
    → bit_and (little_endian (suc n) at) (high_bits (suc n)) ≡ bit_and (little_endian n (λ k. at (suc k))) (high_bits n) * 0x100 + bit_and (at 0) 0x80
unfolding little_endian
apart n at h = and_block 8 (little_endian n (λ k. at (suc k))) (high_bits n) (at 0) 0x80 h (omega arith)

-- if the highest bits of n octets are 0, each octet is below 80
each_below : (n : ℕ) (at : ℕ → ℕ) → ((k : ℕ) → at k < 0x100) → bit_and (little_endian n at) (high_bits n) ≡ 0 → (k : ℕ) → k < n → Ascii (at k)
each_below zero at h e k l = absurd (not-suc-le-zero l)
each_below (suc n) at h e zero l = (clear_one (at 0) (h 0)).0 (omega (arith, apart n at (h 0)))
each_below (suc n) at h e (suc k) l =
    each_below n (λ k. at (suc k)) (λ k. h (suc k)) (omega (arith, apart n at (h 0))) k (le_of_suc-le-suc l)

-- and if each is, the bits are 0
all_clear : (n : ℕ) (at : ℕ → ℕ) → ((k : ℕ) → at k < 0x100) → ((k : ℕ) → k < n → Ascii (at k)) → bit_and (little_endian n at) (high_bits n) ≡ 0
unfolding little_endian
all_clear zero at h f = refl
all_clear (suc n) at h f =
    let first = (clear_one (at 0) (h 0)).1 (f 0 (zero-lt-suc n)) in
    let others = all_clear n (λ k. at (suc k)) (λ k. h (suc k)) (λ k l. f (suc k) (suc-le-suc l)) in
    omega (arith, apart n at (h 0))

-- the highest bits of n octets are 0 exactly if each octet is below 80
pub clear_exactly : (n : ℕ) (at : ℕ → ℕ) → ((k : ℕ) → at k < 0x100) → (bit_and (little_endian n at) (high_bits n) ≡ 0) ↔ ((k : ℕ) → k < n → Ascii (at k))
clear_exactly n at h = (each_below n at h, all_clear n at h)
