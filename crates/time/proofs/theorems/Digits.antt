-- Numbers that two decimal digits make. Assumes nothing.
use Prim.Native.Nat.{ℕ, ◌+◌, ◌-◌, ◌*◌, ◌≤◌}
use mathlib.Core.Bool.{Bool, true, false, ◌&&◌, and-eq-true_iff}
use mathlib.Core.List.{List}
use mathlib.Core.Option.{Option, some, none, some-injective, none-ne-some}
use mathlib.Core.Path.{◌≡◌, refl}
use borrow.Author.Tests.{leb-true}
use native.Mathlib.Omega.{arith}
use lib.Dec.{leb}
use lib.ListN.{get_or}
use Rattle.time.specs.meaning.Time.{digit, pair_at}

-- both of two tests pass
pub both : (a b : Bool) → a && b ≡ true → (a ≡ true) × (b ≡ true)
both a b e = (and-eq-true_iff a b).0 e

digit_range : (b : ℕ) → digit b ≡ true → (0x30 ≤ b) × (b ≤ 0x39)
unfolding digit
digit_range b e = let p = both (leb 0x30 b) (leb b 0x39) e in (leb-true 0x30 b p.0, leb-true b 0x39 p.1)

pub digits_range : (a b : ℕ) → digit a && digit b ≡ true → ((0x30 ≤ a) × (a ≤ 0x39)) × ((0x30 ≤ b) × (b ≤ 0x39))
digits_range a b e = let p = both (digit a) (digit b) e in (digit_range a p.0, digit_range b p.1)

-- the number of two digits
pub pair_coded : (c : List ℕ) (i : ℕ) → digit (get_or c i 0) && digit (get_or c (i + 1) 0) ≡ true → pair_at c i ≡ some ((get_or c i 0 - 0x30) * 10 + (get_or c (i + 1) 0 - 0x30))
unfolding pair_at
pair_coded c i e = rw (pair_at, e)

pub pair_missing : (c : List ℕ) (i : ℕ) → digit (get_or c i 0) && digit (get_or c (i + 1) 0) ≡ false → pair_at c i ≡ none
unfolding pair_at
pair_missing c i e = rw (pair_at, e)

-- two digits make a number of at most 99
pub pair_most : (c : List ℕ) (i n : ℕ) → pair_at c i ≡ some n → n ≤ 99
unfolding pair_at
pair_most c i n = go _ refl
  where
    a : ℕ
    a = get_or c i 0

    b : ℕ
    b = get_or c (i + 1) 0

    go : (t : Bool) → digit a && digit b ≡ t → (elim t as (λ x. Option ℕ) [ true ↦ some ((a - 0x30) * 10 + (b - 0x30)) | false ↦ none ]) ≡ some n → n ≤ 99
    go true e is = omega (arith, digits_range a b e, some-injective _ _ is)
    go false e is = absurd (none-ne-some n is)
