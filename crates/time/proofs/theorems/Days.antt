-- The days before a year by a formula: 365 for each year, and one more for each leap year. Of every four years the first is one, but of every hundred
-- only if it is the first of four hundred. Assumes nothing.
use Prim.Native.Nat.{ℕ, zero, suc, ◌+◌, ◌-◌, ◌*◌, ◌/◌, ◌%◌, ◌≤◌}
use mathlib.Core.Bool.{Bool, true, false, not, ◌&&◌, ◌||◌, true≢false}
use mathlib.Core.List.{List, [], ◌∷◌}
use mathlib.Core.Path.{◌≡◌, refl, sym, ◌∙◌}
use borrow.Author.Tests.{leb-true, eqb-true, eqb-false, eq-eqb}
use native.Mathlib.Omega.{arith}
use lib.Dec.{leb, ltb, eqb}
use lib.ListN.{get_or, take}
use Rattle.der.proofs.theorems.lists.Range.{each}
use Rattle.time.specs.meaning.Calendar.{leap, month_days, total, days_before_year, days_before_month}

-- a leap day, if there is one
abbrev pub leap_day : Bool → ℕ
leap_day true = 1
leap_day false = 0

-- the days of a year
year_total : (year : ℕ) → total (month_days year) ≡ 365 + leap_day (leap year)
unfolding total month_days
year_total year = go (leap year)
  where
    go : (b : Bool) → total (31 ∷ (elim b as (λ x. ℕ) [ true ↦ 29 | false ↦ 28 ]) ∷ 31 ∷ 30 ∷ 31 ∷ 30 ∷ 31 ∷ 31 ∷ 30 ∷ 31 ∷ 30 ∷ 31 ∷ []) ≡ 365 + leap_day b
    go true = refl
    go false = refl

-- the days before a year by the formula
abbrev pub years_by_formula : ℕ → ℕ
years_by_formula year = 365 * year + (year + 3) / 4 - (year + 99) / 100 + (year + 399) / 400

-- Every fourth, hundredth and four hundredth year adds one, the first of them being the year 0.
module _ (year : ℕ) where
  fours : (b : Bool) → eqb (year % 4) 0 ≡ b → (suc year + 3) / 4 ≡ (year + 3) / 4 + leap_day b
  fours true is = omega (arith, eqb-true (year % 4) 0 is)
  fours false is = omega (arith, eqb-false (year % 4) 0 is)

  hundreds : (b : Bool) → eqb (year % 100) 0 ≡ b → (suc year + 99) / 100 ≡ (year + 99) / 100 + leap_day b
  hundreds true is = omega (arith, eqb-true (year % 100) 0 is)
  hundreds false is = omega (arith, eqb-false (year % 100) 0 is)

  four_hundreds : (b : Bool) → eqb (year % 400) 0 ≡ b → (suc year + 399) / 400 ≡ (year + 399) / 400 + leap_day b
  four_hundreds true is = omega (arith, eqb-true (year % 400) 0 is)
  four_hundreds false is = omega (arith, eqb-false (year % 400) 0 is)

  -- a hundredth year is a fourth one, and a four hundredth a hundredth
  hundred_four : eqb (year % 100) 0 ≡ true → eqb (year % 4) 0 ≡ true
  hundred_four is = eq-eqb (year % 4) 0 (omega (arith, eqb-true (year % 100) 0 is))

  four_hundred_hundred : eqb (year % 400) 0 ≡ true → eqb (year % 100) 0 ≡ true
  four_hundred_hundred is = eq-eqb (year % 100) 0 (omega (arith, eqb-true (year % 400) 0 is))

-- so the formula grows by the days of a year, by the three tests of the leap rule
grows : (year q r t q' r' t' : ℕ) (four hundred fourHundred : Bool) → q' ≡ q + leap_day four → r' ≡ r + leap_day hundred → t' ≡ t + leap_day fourHundred
    → r ≤ 365 * year + q → (hundred ≡ true → four ≡ true) → (fourHundred ≡ true → hundred ≡ true)
    → 365 * suc year + q' - r' + t' ≡ 365 * year + q - r + t + (365 + leap_day (four && (not hundred || fourHundred)))
grows year q r t q' r' t' true true true a b c few h f = omega arith
grows year q r t q' r' t' true true false a b c few h f = omega arith
grows year q r t q' r' t' true false true a b c few h f = absurd (true≢false (sym (f refl)))
grows year q r t q' r' t' true false false a b c few h f = omega arith
grows year q r t q' r' t' false true u a b c few h f = absurd (true≢false (sym (h refl)))
grows year q r t q' r' t' false false true a b c few h f = absurd (true≢false (sym (f refl)))
grows year q r t q' r' t' false false false a b c few h f = omega arith

-- Counting the days of the years, year by year, gives what the formula gives.
pub years_counted : (year : ℕ) → days_before_year year ≡ years_by_formula year
unfolding days_before_year leap
years_counted zero = refl
years_counted (suc year) =
    rw (years_counted year, year_total year)
    (sym (grows year _ _ _ _ _ _ _ _ _ (fours year _ refl) (hundreds year _ refl) (four_hundreds year _ refl) (omega arith) (hundred_four year) (four_hundred_hundred year)))

-- the days before each month of a common year, January at 1
abbrev pub before_table : List ℕ
before_table = 0 ∷ 0 ∷ 31 ∷ 59 ∷ 90 ∷ 120 ∷ 151 ∷ 181 ∷ 212 ∷ 243 ∷ 273 ∷ 304 ∷ 334 ∷ []

-- Counting the days of the months gives what the table has, and one more from March on in a leap year.
abbrev tabled : Bool → ℕ → ℕ
tabled b month = get_or before_table month 0 + leap_day (b && ltb 2 month)

pub months_counted : (year month : ℕ) → month ≤ 12 → days_before_month year month ≡ tabled (leap year) month
unfolding days_before_month total month_days
months_counted year month few = go (leap year)
  where
    counted : Bool → ℕ → ℕ
    counted b m = total (take (m - 1) (31 ∷ (elim b as (λ x. ℕ) [ true ↦ 29 | false ↦ 28 ]) ∷ 31 ∷ 30 ∷ 31 ∷ 30 ∷ 31 ∷ 31 ∷ 30 ∷ 31 ∷ 30 ∷ 31 ∷ []))

    right : Bool → ℕ → Bool
    right b m = eqb (counted b m) (tabled b m)

    go : (b : Bool) → counted b month ≡ tabled b month
    go true = eqb-true _ _ (each 13 (right true) refl month (omega arith))
    go false = eqb-true _ _ (each 13 (right false) refl month (omega arith))

-- the same by the test of the code
pub months_tabled : (year month : ℕ) (l t : Bool) → month ≤ 12 → l ≡ leap year → l && ltb 2 month ≡ t → get_or before_table month 0 + leap_day t ≡ days_before_month year month
months_tabled year month l t few same is = sym (months_counted year month few ∙ rw (sym same, is))

-- no month has more than 335 days before it
pub months_few : (year month : ℕ) → month ≤ 12 → days_before_month year month ≤ 335
months_few year month few = rw (months_counted year month few) (go (leap year))
  where
    right : Bool → ℕ → Bool
    right b m = leb (tabled b m) 335

    go : (b : Bool) → tabled b month ≤ 335
    go true = leb-true _ _ (each 13 (right true) refl month (omega arith))
    go false = leb-true _ _ (each 13 (right false) refl month (omega arith))

-- the years up to 9999 have at most 3,652,060 days before them
pub years_few : (year : ℕ) → year ≤ 9999 → days_before_year year ≤ 3652060
years_few year few = rw (years_counted year) (omega arith)
