-- Contents that are times and contents that aren't, and validities that run forwards and backwards, computed on the definitions. Assumes nothing.
use Prim.Native.Nat.{ℕ, ◌+◌, ◌/◌, ◌%◌}
use mathlib.Core.Bool.{Bool, true, false}
use mathlib.Core.List.{List, [], ◌∷◌, ◌++◌, map}
use mathlib.Core.Option.{Option, some, none, bind}
use mathlib.Core.Path.{◌≡◌, refl}
use lib.ListN.{length, take}
use Rattle.time.specs.meaning.Calendar.{leap, month_days, days_in, total, days_before_year, days_before_month, is_day, is_real, days_before, seconds, moment}
use Rattle.time.specs.meaning.Time.{digit, pair_at, date_at, century, utc_date, generalized_date, utc_moment, generalized_moment, time_moment}
use Rattle.time.specs.meaning.Validity.{is_short, element_moment, shown_moment, first_element, further_elements, in_order, forwards}

-- whether there is a moment
abbrev there : Option ℕ → Bool
there none = false
there (some n) = true

-- a rule answers the same on each of some contents
abbrev gives : {A : Type 0} → (List ℕ → A) → A → List (List ℕ) → Type 0
gives f a cs = map f cs ≡ map (λ _. a) cs

-- numbers written with two digits each, and Z after them
abbrev written : List ℕ → List ℕ
written [] = 0x5A ∷ []
written (n ∷ ns) = (0x30 + n / 10) ∷ (0x30 + n % 10) ∷ written ns

-- the first moment of 2000, as a UTCTime
abbrev whole : List ℕ
whole = written (0 ∷ 1 ∷ 1 ∷ 0 ∷ 0 ∷ 0 ∷ [])

-- 2049, 1950, 29 February of 2000 and 1996, and the last second of 1999
utc_times : gives (λ c. there (utc_moment c)) true
    (whole
    ∷ written (49 ∷ 1 ∷ 1 ∷ 0 ∷ 0 ∷ 0 ∷ [])
    ∷ written (50 ∷ 2 ∷ 28 ∷ 0 ∷ 0 ∷ 0 ∷ [])
    ∷ written (0 ∷ 2 ∷ 29 ∷ 0 ∷ 0 ∷ 0 ∷ [])
    ∷ written (96 ∷ 2 ∷ 29 ∷ 0 ∷ 0 ∷ 0 ∷ [])
    ∷ written (99 ∷ 12 ∷ 31 ∷ 23 ∷ 59 ∷ 59 ∷ [])
    ∷ [])
unfolding utc_moment utc_date century date_at moment is_real is_day days_before days_before_year days_before_month total days_in month_days leap pair_at digit bind
utc_times = refl

-- 29 February of 1950 and 2049, 30 February, days 0, 31 of April and 32, months 0 and 13, hour 24, minute and second 60
no_utc_days : gives (λ c. there (utc_moment c)) false
    (written (50 ∷ 2 ∷ 29 ∷ 0 ∷ 0 ∷ 0 ∷ [])
    ∷ written (49 ∷ 2 ∷ 29 ∷ 0 ∷ 0 ∷ 0 ∷ [])
    ∷ written (0 ∷ 2 ∷ 30 ∷ 0 ∷ 0 ∷ 0 ∷ [])
    ∷ written (0 ∷ 1 ∷ 0 ∷ 0 ∷ 0 ∷ 0 ∷ [])
    ∷ written (0 ∷ 4 ∷ 31 ∷ 0 ∷ 0 ∷ 0 ∷ [])
    ∷ written (0 ∷ 1 ∷ 32 ∷ 0 ∷ 0 ∷ 0 ∷ [])
    ∷ written (0 ∷ 0 ∷ 1 ∷ 0 ∷ 0 ∷ 0 ∷ [])
    ∷ written (0 ∷ 13 ∷ 1 ∷ 0 ∷ 0 ∷ 0 ∷ [])
    ∷ written (0 ∷ 1 ∷ 1 ∷ 24 ∷ 0 ∷ 0 ∷ [])
    ∷ written (0 ∷ 1 ∷ 1 ∷ 0 ∷ 60 ∷ 0 ∷ [])
    ∷ written (0 ∷ 1 ∷ 1 ∷ 0 ∷ 0 ∷ 60 ∷ [])
    ∷ [])
unfolding utc_moment utc_date century date_at moment is_real is_day days_before days_before_year days_before_month total days_in month_days leap pair_at digit bind
no_utc_days = refl

-- no octets, 12 and 14 octets, 15 of a GeneralizedTime, a small z, and the octets before and after the digits
no_utc_octets : gives (λ c. there (utc_moment c)) false
    ([]
    ∷ take 12 whole
    ∷ (whole ++ 0x5A ∷ [])
    ∷ written (20 ∷ 0 ∷ 1 ∷ 1 ∷ 0 ∷ 0 ∷ 0 ∷ [])
    ∷ (take 12 whole ++ 0x7A ∷ [])
    ∷ written (100 ∷ 1 ∷ 1 ∷ 0 ∷ 0 ∷ 0 ∷ [])
    ∷ written (0 ∷ 1 ∷ 1 ∷ 100 ∷ 0 ∷ 0 ∷ [])
    ∷ (take 11 whole ++ 0x2F ∷ 0x5A ∷ [])
    ∷ [])
unfolding utc_moment utc_date century date_at moment is_real is_day days_before days_before_year days_before_month total days_in month_days leap pair_at digit bind
no_utc_octets = refl

-- 29 February of 2052 and 2400, the first moment of 2050, the last day of each month of 2051, and the last second of 9999
generalized_times : gives (λ c. there (generalized_moment c)) true
    (written (20 ∷ 52 ∷ 2 ∷ 29 ∷ 0 ∷ 0 ∷ 0 ∷ [])
    ∷ written (24 ∷ 0 ∷ 2 ∷ 29 ∷ 0 ∷ 0 ∷ 0 ∷ [])
    ∷ written (20 ∷ 50 ∷ 1 ∷ 1 ∷ 0 ∷ 0 ∷ 0 ∷ [])
    ∷ written (20 ∷ 51 ∷ 1 ∷ 31 ∷ 0 ∷ 0 ∷ 0 ∷ [])
    ∷ written (20 ∷ 51 ∷ 2 ∷ 28 ∷ 0 ∷ 0 ∷ 0 ∷ [])
    ∷ written (20 ∷ 51 ∷ 3 ∷ 31 ∷ 0 ∷ 0 ∷ 0 ∷ [])
    ∷ written (20 ∷ 51 ∷ 4 ∷ 30 ∷ 0 ∷ 0 ∷ 0 ∷ [])
    ∷ written (20 ∷ 51 ∷ 5 ∷ 31 ∷ 0 ∷ 0 ∷ 0 ∷ [])
    ∷ written (20 ∷ 51 ∷ 6 ∷ 30 ∷ 0 ∷ 0 ∷ 0 ∷ [])
    ∷ written (20 ∷ 51 ∷ 7 ∷ 31 ∷ 0 ∷ 0 ∷ 0 ∷ [])
    ∷ written (20 ∷ 51 ∷ 8 ∷ 31 ∷ 0 ∷ 0 ∷ 0 ∷ [])
    ∷ written (20 ∷ 51 ∷ 9 ∷ 30 ∷ 0 ∷ 0 ∷ 0 ∷ [])
    ∷ written (20 ∷ 51 ∷ 10 ∷ 31 ∷ 0 ∷ 0 ∷ 0 ∷ [])
    ∷ written (20 ∷ 51 ∷ 11 ∷ 30 ∷ 0 ∷ 0 ∷ 0 ∷ [])
    ∷ written (20 ∷ 51 ∷ 12 ∷ 31 ∷ 0 ∷ 0 ∷ 0 ∷ [])
    ∷ written (99 ∷ 99 ∷ 12 ∷ 31 ∷ 23 ∷ 59 ∷ 59 ∷ [])
    ∷ [])
unfolding generalized_moment generalized_date date_at moment is_real is_day days_in month_days leap pair_at digit bind
generalized_times = refl

-- 29 February of 2100 and 2051, the day after the last of each other month of 2051, hour 24, minute and second 60, and 13 octets
no_generalized_times : gives (λ c. there (generalized_moment c)) false
    (written (21 ∷ 0 ∷ 2 ∷ 29 ∷ 0 ∷ 0 ∷ 0 ∷ [])
    ∷ written (20 ∷ 51 ∷ 2 ∷ 29 ∷ 0 ∷ 0 ∷ 0 ∷ [])
    ∷ written (20 ∷ 51 ∷ 1 ∷ 32 ∷ 0 ∷ 0 ∷ 0 ∷ [])
    ∷ written (20 ∷ 51 ∷ 3 ∷ 32 ∷ 0 ∷ 0 ∷ 0 ∷ [])
    ∷ written (20 ∷ 51 ∷ 4 ∷ 31 ∷ 0 ∷ 0 ∷ 0 ∷ [])
    ∷ written (20 ∷ 51 ∷ 5 ∷ 32 ∷ 0 ∷ 0 ∷ 0 ∷ [])
    ∷ written (20 ∷ 51 ∷ 6 ∷ 31 ∷ 0 ∷ 0 ∷ 0 ∷ [])
    ∷ written (20 ∷ 51 ∷ 7 ∷ 32 ∷ 0 ∷ 0 ∷ 0 ∷ [])
    ∷ written (20 ∷ 51 ∷ 8 ∷ 32 ∷ 0 ∷ 0 ∷ 0 ∷ [])
    ∷ written (20 ∷ 51 ∷ 9 ∷ 31 ∷ 0 ∷ 0 ∷ 0 ∷ [])
    ∷ written (20 ∷ 51 ∷ 10 ∷ 32 ∷ 0 ∷ 0 ∷ 0 ∷ [])
    ∷ written (20 ∷ 51 ∷ 11 ∷ 31 ∷ 0 ∷ 0 ∷ 0 ∷ [])
    ∷ written (20 ∷ 51 ∷ 12 ∷ 32 ∷ 0 ∷ 0 ∷ 0 ∷ [])
    ∷ written (20 ∷ 51 ∷ 1 ∷ 1 ∷ 24 ∷ 0 ∷ 0 ∷ [])
    ∷ written (20 ∷ 51 ∷ 1 ∷ 1 ∷ 0 ∷ 60 ∷ 0 ∷ [])
    ∷ written (20 ∷ 51 ∷ 1 ∷ 1 ∷ 0 ∷ 0 ∷ 60 ∷ [])
    ∷ whole
    ∷ [])
unfolding generalized_moment generalized_date date_at moment is_real is_day days_in month_days leap pair_at digit bind
no_generalized_times = refl

-- days through 2049, though they are real
early_generalized_times : gives (λ c. there (generalized_moment c)) false
    (written (20 ∷ 49 ∷ 12 ∷ 31 ∷ 23 ∷ 59 ∷ 59 ∷ [])
    ∷ written (20 ∷ 0 ∷ 2 ∷ 29 ∷ 0 ∷ 0 ∷ 0 ∷ [])
    ∷ written (19 ∷ 49 ∷ 12 ∷ 31 ∷ 23 ∷ 59 ∷ 59 ∷ [])
    ∷ written (0 ∷ 0 ∷ 1 ∷ 1 ∷ 0 ∷ 0 ∷ 0 ∷ [])
    ∷ [])
unfolding generalized_moment generalized_date date_at moment is_real is_day days_in month_days leap pair_at digit bind
early_generalized_times = refl

-- the two-digit years on both sides of the centuries' border
centuries : map century (0 ∷ 49 ∷ 50 ∷ 99 ∷ []) ≡ 2000 ∷ 2049 ∷ 1950 ∷ 1999 ∷ []
unfolding century
centuries = refl

-- an element with one length octet
abbrev short : ℕ → List ℕ → List ℕ
short id c = id ∷ length c ∷ c

-- notBefore and notAfter with a UTCTime or a GeneralizedTime
abbrev utc : ℕ → List ℕ → List ℕ
utc id c = short id (short 0x17 c)

abbrev generalized : ℕ → List ℕ → List ℕ
generalized id c = short id (short 0x18 c)

-- the last second of 2049, and the first of 2050 and of 1950
abbrev last2049 : List ℕ
last2049 = written (49 ∷ 12 ∷ 31 ∷ 23 ∷ 59 ∷ 59 ∷ [])

abbrev first2050 : List ℕ
first2050 = written (20 ∷ 50 ∷ 1 ∷ 1 ∷ 0 ∷ 0 ∷ 0 ∷ [])

abbrev first1950 : List ℕ
first1950 = written (50 ∷ 1 ∷ 1 ∷ 0 ∷ 0 ∷ 0 ∷ [])

-- what notBefore and notAfter show: 1950-01-01, 2049-12-31 23:59:59 and 2050-01-01; and nothing in another element, with a wrong length, or cut short
shown_moments : map shown_moment
    (utc 0xA0 first1950
    ∷ utc 0xA1 last2049
    ∷ generalized 0xA0 first2050
    ∷ utc 0xA2 first1950
    ∷ (utc 0xA0 first1950 ++ 0 ∷ [])
    ∷ take 16 (utc 0xA0 first1950)
    ∷ short 0xA0 (short 0x16 first1950)
    ∷ short 0xA0 []
    ∷ [])
    ≡ some 61_536_067_200 ∷ some 64_691_827_199 ∷ some 64_691_827_200 ∷ none ∷ none ∷ none ∷ none ∷ none ∷ []
unfolding shown_moment element_moment is_short time_moment utc_moment utc_date generalized_moment generalized_date century date_at moment seconds is_real is_day days_before days_before_year days_before_month total days_in month_days leap pair_at digit bind
shown_moments = refl

-- both times forwards, equal, across the two kinds, and one alone; and backwards
validities : (map forwards
    ((utc 0xA0 first1950 ++ utc 0xA1 last2049)
    ∷ (utc 0xA0 last2049 ++ utc 0xA1 last2049)
    ∷ (utc 0xA0 last2049 ++ generalized 0xA1 first2050)
    ∷ utc 0xA0 last2049
    ∷ utc 0xA1 first1950
    ∷ [])
    ≡ true ∷ true ∷ true ∷ true ∷ true ∷ [])
    × (map forwards
    ((utc 0xA0 last2049 ++ utc 0xA1 first1950)
    ∷ (generalized 0xA0 first2050 ++ utc 0xA1 last2049)
    ∷ [])
    ≡ false ∷ false ∷ [])
unfolding forwards in_order first_element further_elements shown_moment element_moment is_short time_moment utc_moment utc_date generalized_moment generalized_date century date_at moment seconds is_real is_day days_before days_before_year days_before_month total days_in month_days leap pair_at digit bind
validities = (refl, refl)
