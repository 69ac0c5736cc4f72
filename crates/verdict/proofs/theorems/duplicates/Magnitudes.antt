-- The signed whole number that octets give: its magnitude is built octet by octet, and with at most 8 octets the number has 64 bits.
-- Assumes nothing.
use Prim.Native.Nat.{ℕ, zero, suc, ◌+◌, ◌*◌, ◌^◌, ◌≤◌, ◌<◌}
use native.Mathlib.Nat.{lt_of_lt_of_le, mul-le-mul, pow-le-pow_right}
use native.Mathlib.Numerals.{add-one}
use native.Mathlib.Omega.{arith}
use mathlib.Core.Path.{◌≡◌, refl, sym, ap, ◌∙◌}
use mathlib.Core.Bool.{Bool, true, false}
use mathlib.Core.List.{List, [], ◌∷◌, map, map-append, map-id}
use lib.Dec.{leb, lit<}
use Rattle.std.specs.Int.RustNames.{FitsSigned}
use Rattle.std.proofs.lemmas.Int.{ints}
use mir.Syntax.{w64}
use lib.IntN.{ℤ, pos, negsuc, ◌+ℤ◌, ◌*ℤ◌, neg_ℤ}
use lib.ListN.{length, length-map, length-take, get_or, take}
use lib.Seq.{take-suc, take_all}
use borrow.Author.Tests.{leb-true, leb-false, le-ltb, lt-ltb}
use Rattle.der.specs.meaning.Octets.{Octets}
use Rattle.der.specs.meaning.Length.{value_from}
use Rattle.der.proofs.Laws.{value_none, value_more, value_last, value_below, octets_take, octets_none, octets_more, octets_at, octets_rest}
use Rattle.verdict.specs.meaning.Duplicates.{signed}
use Rattle.verdict.specs.steps.SearchAnswer.{magnitude_octet}

-- whether the number is negative
abbrev pub negative : List ℕ → Bool
negative c = leb 0x80 (get_or c 0 0)

-- the magnitude that the first octets give
abbrev pub prefix : List ℕ → ℕ → ℕ
prefix c i = value_from 0 (map (magnitude_octet (negative c)) (take i c))

-- the parts of octets are octets
part_octet : (n : Bool) (b : ℕ) → b < 256 → magnitude_octet n b < 256
part_octet true b h = omega arith
part_octet false b h = h

parts_octets : (n : Bool) (c : List ℕ) → Octets c → Octets (map (magnitude_octet n) c)
parts_octets n [] o = octets_none
parts_octets n (b ∷ c) o =
    octets_more (magnitude_octet n b) (map (magnitude_octet n) c) (part_octet n b (octets_at (b ∷ c) o 0)) (parts_octets n c (octets_rest b c o))

-- the first octet's part is below 128
part_first : (b : ℕ) → b < 256 → magnitude_octet (leb 0x80 b) b < 128
part_first b h = by_test (leb 0x80 b) refl
  where
    by_test : (n : Bool) → leb 0x80 b ≡ n → magnitude_octet n b < 128
    by_test true e = omega (arith, leb-true 0x80 b e)
    by_test false e = leb-false 0x80 b e

-- at most 8 octets of which the first is below 128 give a magnitude of 63 bits
value_fits : (b : ℕ) (bs : List ℕ) → Octets bs → b < 128 → length bs ≤ 7 → value_from 0 (b ∷ bs) < 2 ^ 63
value_fits b bs o first short =
    let most : suc (0 * 256 + b) * 256 ^ length bs ≤ 128 * 256 ^ 7 =
    mul-le-mul {n₂ = 128} (omega arith) (pow-le-pow_right (lit< tt) short) in
    rw (value_more 0 b bs) (lt_of_lt_of_le (value_below (0 * 256 + b) bs o) most)

-- the magnitude of the first octets has 63 bits
pub prefix_fits : (c : List ℕ) (i : ℕ) → Octets c → length c ≤ 8 → prefix c i < 2 ^ 63
prefix_fits c zero o short = rw (value_none 0) (lit< tt)
prefix_fits [] (suc i) o short = rw (value_none 0) (lit< tt)
prefix_fits (b ∷ c) (suc i) o short =
    let n = leb 0x80 b in
    let few : length (map (magnitude_octet n) (take i c)) ≤ 7 = simp (length-map, length-take) (omega arith) in
    value_fits (magnitude_octet n b) (map (magnitude_octet n) (take i c)) (parts_octets n (take i c) (octets_take i c (octets_rest b c o))) (part_first b (octets_at (b ∷ c) o 0)) few

-- one octet more
pub prefix_more : (c : List ℕ) (i : ℕ) → i < length c → prefix c i * 256 + magnitude_octet (negative c) (get_or c i 0) ≡ prefix c (i + 1)
prefix_more c i h = rw (add-one, take-suc c i 0 h, map-append) (sym (value_last 0 (map (magnitude_octet (negative c)) (take i c)) (magnitude_octet (negative c) (get_or c i 0))))

-- all octets
pub prefix_all : (c : List ℕ) (i : ℕ) → length c ≤ i → prefix c i ≡ value_from 0 (map (magnitude_octet (negative c)) c)
prefix_all c i h = ap (λ (l : List ℕ). value_from 0 (map (magnitude_octet (negative c)) l)) (take_all i c h)

-- the number of a sign and a magnitude; the complement's magnitude is that of the number one less than nothing
abbrev pub number : Bool → ℕ → ℤ
number true m = negsuc m
number false m = pos m

-- the number that the first octets give
abbrev pub number_before : List ℕ → ℕ → ℤ
number_before c i = number (negative c) (prefix c i)

-- of none of them, by the sign
pub number_begins : (c : List ℕ) (n : Bool) → negative c ≡ n → number n 0 ≡ number_before c 0
number_begins c n is = rw (is, value_none 0)

-- one octet more
number_step : (n : Bool) (m b : ℕ) → b < 256 → number n m *ℤ pos 256 +ℤ pos b ≡ number n (m * 256 + magnitude_octet n b)
number_step true m b h = omega (arith, ints)
number_step false m b h = refl

-- a number that is not above nothing has 64 bits, if its opposite is at most 2 ^ 63
opposite_fits : (n : ℕ) → n ≤ 2 ^ 63 → FitsSigned w64 (neg_ℤ (pos n))
opposite_fits zero few = record { sfits = lit< tt }
opposite_fits (suc n) few = record { sfits = few }

module _ (c : List ℕ) (i : ℕ) (octets : Octets c) (short : length c ≤ 8) where
  -- it has 64 bits,
  pub before_fits : FitsSigned w64 (number_before c i)
  before_fits = by_sign (negative c) (prefix_fits c i octets short)
    where
      by_sign : (n : Bool) {m : ℕ} → m < 2 ^ 63 → FitsSigned w64 (number n m)
      by_sign true few = record { sfits = few }
      by_sign false few = record { sfits = few }

  module _ (there : i < length c) where
    pub before_more : number_before c i *ℤ pos 256 +ℤ pos (get_or c i 0) ≡ number_before c (i + 1)
    before_more = number_step (negative c) (prefix c i) (get_or c i 0) (octets_at c octets i) ∙ ap (number (negative c)) (prefix_more c i there)

    -- and so has its product by 256, if an octet is left
    pub before_shifts : FitsSigned w64 (number_before c i *ℤ pos 256)
    before_shifts = by_sign (negative c) (prefix c i) (omega (arith, prefix_more c i there, prefix_fits c (i + 1) octets short))
      where
        by_sign : (n : Bool) (m : ℕ) → m * 256 < 2 ^ 63 → FitsSigned w64 (number n m *ℤ pos 256)
        by_sign true m few = opposite_fits (suc m * 256) (omega arith)
        by_sign false m few = record { sfits = few }

-- of all octets
pub number_all : (c : List ℕ) (i : ℕ) → length c ≤ i → number_before c i ≡ signed c
unfolding signed
number_all c i past = ap (number (negative c)) (prefix_all c i past) ∙ by_sign (negative c) refl
  where
    by_sign : (n : Bool) → negative c ≡ n → number n (value_from 0 (map (magnitude_octet n) c)) ≡ signed c
    by_sign true is = rw (signed, le-ltb (get_or c 0 0) 0x80 (leb-true 0x80 (get_or c 0 0) is))
    by_sign false is = rw (signed, lt-ltb (get_or c 0 0) 0x80 (leb-false 0x80 (get_or c 0 0) is)) (ap (λ (l : List ℕ). pos (value_from 0 l)) (map-id c))
