-- In which moments each kind of time shows: a moment lies within its year, so that UTCTime shows those from 1950 to 2049 and GeneralizedTime the
-- later ones. Assumes nothing.
use Prim.Native.Nat.{ℕ, zero, suc, ◌+◌, ◌-◌, ◌*◌, ◌≤◌, ◌<◌}
use mathlib.Core.Bool.{Bool, true, false, ◌&&◌, ◌||◌, true≢false}
use mathlib.Core.List.{List, [], ◌∷◌}
use mathlib.Core.Option.{Option, some, none, some-injective, none-ne-some, bind, bind-eq-some_iff}
use mathlib.Core.Path.{◌≡◌, refl, sym, ap}
use mathlib.Core.Logic.{◌⊎◌, inl, inr, ⊎_elim}
use native.Mathlib.Nat.{le_of_suc-le-suc, eq-or-lt_of_le}
use native.Mathlib.Omega.{arith}
use borrow.Author.Tests.{leb-true, leb-false, eqb-true}
use lib.Dec.{leb, eqb}
use lib.ListN.{length, get_or, get_elem?, take, drop}
use Rattle.time.specs.meaning.Calendar.{month_days, days_in, total, days_before_year, days_before_month, Date, is_day, is_real, days_before, seconds, moment}
use Rattle.time.specs.meaning.Time.{pair_at, date_at, century, utc_date, generalized_date, first_generalized_year, utc_moment, generalized_moment, time_moment}
use Rattle.time.specs.meaning.Validity.{is_short, element_moment, shown_moment}
use Rattle.time.proofs.theorems.Digits.{both, pair_most}
use Rattle.time.proofs.theorems.Days.{years_counted}
use Rattle.time.proofs.theorems.Dates.{date_of}

-- a number and those before it in a list are at most the total
entry_within : (l : List ℕ) (i a : ℕ) → get_elem? l i ≡ some a → total (take i l) + a ≤ total l
unfolding total
entry_within [] i a is = absurd (none-ne-some a is)
entry_within (b ∷ l) zero a is = omega (arith, some-injective b a is)
entry_within (b ∷ l) (suc i) a is = omega (arith, entry_within l i a is)

-- the days before a month and its own are days of the year
month_within : (year month days : ℕ) → days_in year month ≡ some days → days_before_month year month + days ≤ total (month_days year)
unfolding days_in days_before_month
month_within year zero days is = absurd (none-ne-some days is)
month_within year (suc month) days is =
    let same : suc month - 1 ≡ month = omega arith in
    rw (days_before_month, same) (entry_within (month_days year) month days is)

-- what is real of a date: its day is one of the month's
real_day : (d : Date) → is_real d ≡ true → (days : ℕ) × (days_in d.year d.month ≡ some days) × (1 ≤ d.day) × (d.day ≤ days)
unfolding is_real is_day
real_day d is = go (days_in d.year d.month) refl (both _ (leb d.hour 23) (both _ (leb d.minute 59) (both _ (leb d.second 59) is).0).0).0
  where
    go : (o : Option ℕ) → days_in d.year d.month ≡ o → (elim o as (λ x. Bool) [ some days ↦ leb 1 d.day && leb d.day days | none ↦ false ]) ≡ true
        → (days : ℕ) × (days_in d.year d.month ≡ some days) × (1 ≤ d.day) × (d.day ≤ days)
    go none e t = absurd (true≢false (sym t))
    go (some days) e t = let p = both (leb 1 d.day) (leb d.day days) t in (days, e, leb-true 1 d.day p.0, leb-true d.day days p.1)

-- and its hour, minute and second are in their ranges
real_time : (d : Date) → is_real d ≡ true → (d.hour ≤ 23) × (d.minute ≤ 59) × (d.second ≤ 59)
unfolding is_real
real_time d is =
    let s = both (is_day d && leb d.hour 23 && leb d.minute 59) (leb d.second 59) is in
    let m = both (is_day d && leb d.hour 23) (leb d.minute 59) s.0 in
    (leb-true d.hour 23 (both (is_day d) (leb d.hour 23) m.0).1, leb-true d.minute 59 m.1, leb-true d.second 59 s.1)

-- A moment lies within its year: not before the first second, and before the first of the next year.
pub within_year : (d : Date) → is_real d ≡ true → (days_before_year d.year * 86400 ≤ seconds d) × (seconds d < days_before_year (suc d.year) * 86400)
unfolding seconds days_before days_before_year
within_year d is =
    let p = real_day d is in
    let t = real_time d is in
    let w = month_within d.year d.month p.0 p.1 in
    (omega (arith, p, t, w), omega (arith, p, t, w))

-- what is real among dates has its seconds as its moment
moment_real : (d : Date) (n : ℕ) → moment d ≡ some n → (is_real d ≡ true) × (seconds d ≡ n)
unfolding moment
moment_real d n is = go (is_real d) refl is
  where
    go : (b : Bool) → is_real d ≡ b → (elim b as (λ x. Option ℕ) [ true ↦ some (seconds d) | false ↦ none ]) ≡ some n → (is_real d ≡ true) × (seconds d ≡ n)
    go true e h = (e, some-injective (seconds d) n h)
    go false e h = absurd (none-ne-some n h)

-- a date has the year that it is given
date_year : (year : ℕ) (c : List ℕ) (i : ℕ) (d : Date) → date_at year c i ≡ some d → d.year ≡ year
unfolding date_at bind
date_year year c i d = go (pair_at c i) (pair_at c (i + 2)) (pair_at c (i + 4)) (pair_at c (i + 6)) (pair_at c (i + 8)) (eqb (get_or c (i + 10) 0) 0x5A)
  where
    go : (month day hour minute second : Option ℕ) (z : Bool) → date_of year month day hour minute second z ≡ some d → d.year ≡ year
    go none day hour minute second z is = absurd (none-ne-some d is)
    go (some mo) none hour minute second z is = absurd (none-ne-some d is)
    go (some mo) (some da) none minute second z is = absurd (none-ne-some d is)
    go (some mo) (some da) (some h) none second z is = absurd (none-ne-some d is)
    go (some mo) (some da) (some h) (some mi) none z is = absurd (none-ne-some d is)
    go (some mo) (some da) (some h) (some mi) (some s) false is = absurd (none-ne-some d is)
    go (some mo) (some da) (some h) (some mi) (some s) true is = sym (ap (λ (x : Date). x.year) (some-injective _ d is))

-- later years have more days before them
years_ascend : (z y : ℕ) → y ≤ z → days_before_year y ≤ days_before_year z
unfolding days_before_year
years_ascend zero y le = let same : y ≡ 0 = omega arith in rw same (omega arith)
years_ascend (suc z) y le =
    ⊎_elim (λ same. rw same (omega arith)) (λ less. omega (arith, years_ascend z y (le_of_suc-le-suc less))) (eq-or-lt_of_le le)

-- the days before 1950, 2050 and 10000
pub days_1950 : days_before_year 1950 ≡ 712_223
days_1950 = years_counted 1950

pub days_2050 : days_before_year 2050 ≡ 748_748
days_2050 = years_counted 2050

pub days_10000 : days_before_year 10000 ≡ 3_652_425
days_10000 = years_counted 10000

-- the moments of dates from a year on, and before a year
module _ (d : Date) (n : ℕ) (is : moment d ≡ some n) where
  since : (year : ℕ) → year ≤ d.year → days_before_year year * 86400 ≤ n
  since year late =
      let m = moment_real d n is in
      omega (arith, m.1, (within_year d m.0).0, years_ascend d.year year late)

  until : (year : ℕ) → d.year < year → n < days_before_year year * 86400
  until year early =
      let m = moment_real d n is in
      omega (arith, m.1, (within_year d m.0).1, years_ascend year (suc d.year) early)

-- the years of dates that are written in either way
utc_years : (c : List ℕ) (d : Date) → utc_date c ≡ some d → (1950 ≤ d.year) × (d.year < 2050)
unfolding utc_date century
utc_years c d is = go (eqb (length c) 13) is
  where
    full : (yy : ℕ) → yy ≤ 99 → (b : Bool) → leb 50 yy ≡ b → let year = elim b as (λ x. ℕ) [ true ↦ 1900 + yy | false ↦ 2000 + yy ] in (1950 ≤ year) × (year < 2050)
    full yy few true e = (omega (arith, leb-true 50 yy e), omega arith)
    full yy few false e = (omega arith, omega (arith, leb-false 50 yy e))

    go : (b : Bool) → (elim b as (λ x. Option Date) [ true ↦ bind (pair_at c 0) (λ yy. date_at (century yy) c 2) | false ↦ none ]) ≡ some d
        → (1950 ≤ d.year) × (d.year < 2050)
    go true e =
        let p = (bind-eq-some_iff (pair_at c 0) (λ yy. date_at (century yy) c 2)).0 e in
        rw (date_year (century p.0) c 2 d p.2) (full p.0 (pair_most c 0 p.0 p.1) _ refl)
    go false e = absurd (none-ne-some d e)

generalized_years : (c : List ℕ) (d : Date) → generalized_date c ≡ some d → d.year < 10000
unfolding generalized_date
generalized_years c d is = go (eqb (length c) 15) is
  where
    parts : ℕ → ℕ → Option Date
    parts hundreds rest = date_at (hundreds * 100 + rest) c 4

    go : (b : Bool) → (elim b as (λ x. Option Date) [ true ↦ bind (pair_at c 0) (λ hundreds. bind (pair_at c 2) (parts hundreds)) | false ↦ none ]) ≡ some d
        → d.year < 10000
    go true e =
        let p = (bind-eq-some_iff (pair_at c 0) (λ hundreds. bind (pair_at c 2) (parts hundreds))).0 e in
        let q = (bind-eq-some_iff (pair_at c 2) (parts p.0)).0 p.2 in
        rw (date_year (p.0 * 100 + q.0) c 4 d q.2) (omega (arith, pair_most c 0 p.0 p.1, pair_most c 2 q.0 q.1))
    go false e = absurd (none-ne-some d e)

-- "days through 2049 stand as UTCTime .. none before 1950": what a UTCTime shows is from 1950-01-01 on and before 2050-01-01
pub utc_through_2049 : (c : List ℕ) (n : ℕ) → utc_moment c ≡ some n → (61_536_067_200 ≤ n) × (n < 64_691_827_200)
unfolding utc_moment
utc_through_2049 c n is =
    let p = (bind-eq-some_iff (utc_date c) moment).0 is in
    let y = utc_years c p.0 p.1 in
    (omega (arith, since p.0 n p.2 1950 y.0, days_1950), omega (arith, until p.0 n p.2 2050 y.1, days_2050))

-- "and later ones as GeneralizedTime": what a GeneralizedTime shows is from 2050-01-01 on, up to the last second of 9999
pub generalized_from_2050 : (c : List ℕ) (n : ℕ) → generalized_moment c ≡ some n → (64_691_827_200 ≤ n) × (n ≤ 315_569_519_999)
unfolding generalized_moment
generalized_from_2050 c n is =
    let p = (bind-eq-some_iff (generalized_date c) late).0 is in
    go p.0 (generalized_years c p.0 p.1) (leb first_generalized_year p.0.year) refl p.2
  where
    late : Date → Option ℕ
    late d = elim (leb first_generalized_year d.year) as (λ x. Option ℕ) [ true ↦ moment d | false ↦ none ]

    go : (d : Date) → d.year < 10000 → (b : Bool) → leb first_generalized_year d.year ≡ b
        → (elim b as (λ x. Option ℕ) [ true ↦ moment d | false ↦ none ]) ≡ some n → (64_691_827_200 ≤ n) × (n ≤ 315_569_519_999)
    go d early true t e =
        (omega (arith, since d n e 2050 (leb-true first_generalized_year d.year t), days_2050), omega (arith, until d n e 10000 early, days_10000))
    go d early false t e = absurd (none-ne-some n e)

-- what is present if a test passes is present, and the test passes
pub kept : (b : Bool) (o : Option ℕ) (n : ℕ) → (elim b as (λ x. Option ℕ) [ true ↦ o | false ↦ none ]) ≡ some n → (b ≡ true) × (o ≡ some n)
kept true o n is = (refl, is)
kept false o n is = absurd (none-ne-some n is)

-- so what a Time shows tells which kind it is: a UTCTime through 2049, and a GeneralizedTime from then on
time_kind : (id : ℕ) (c : List ℕ) (n : ℕ) → time_moment id c ≡ some n
    → ((id ≡ 0x17) × (61_536_067_200 ≤ n) × (n < 64_691_827_200)) ⊎ ((id ≡ 0x18) × (64_691_827_200 ≤ n) × (n ≤ 315_569_519_999))
unfolding time_moment
time_kind id c n is = go (eqb id 0x17) refl is
  where
    go : (b : Bool) → eqb id 0x17 ≡ b
        → (elim b as (λ x. Option ℕ) [ true ↦ utc_moment c | false ↦ elim (eqb id 0x18) as (λ x. Option ℕ) [ true ↦ generalized_moment c | false ↦ none ] ]) ≡ some n
        → ((id ≡ 0x17) × (61_536_067_200 ≤ n) × (n < 64_691_827_200)) ⊎ ((id ≡ 0x18) × (64_691_827_200 ≤ n) × (n ≤ 315_569_519_999))
    go true e h = let p = utc_through_2049 c n h in inl (eqb-true id 0x17 e, p.0, p.1)
    go false e h =
        let k = kept (eqb id 0x18) (generalized_moment c) n h in
        let p = generalized_from_2050 c n k.1 in
        inr (eqb-true id 0x18 k.0, p.0, p.1)

-- "days through 2049 stand as UTCTime and later ones as GeneralizedTime (none before 1950)": in the octets of notBefore or notAfter the Time's
-- identifier is the third
pub shown_kind : (e : List ℕ) (n : ℕ) → shown_moment e ≡ some n
    → ((get_or (drop 2 e) 0 0 ≡ 0x17) × (61_536_067_200 ≤ n) × (n < 64_691_827_200)) ⊎ ((get_or (drop 2 e) 0 0 ≡ 0x18) × (64_691_827_200 ≤ n) × (n ≤ 315_569_519_999))
unfolding shown_moment element_moment
shown_kind e n is =
    let t = drop 2 e in
    let inner = (kept (is_short e && (eqb (get_or e 0 0) 0xA0 || eqb (get_or e 0 0) 0xA1)) (element_moment t) n is).1 in
    time_kind (get_or t 0 0) (drop 2 t) n (kept (is_short t) (time_moment (get_or t 0 0) (drop 2 t)) n inner).1

-- so what notBefore or notAfter shows is from 1950-01-01 on, up to the last second of 9999
pub shown_range : (e : List ℕ) (n : ℕ) → shown_moment e ≡ some n → (61_536_067_200 ≤ n) × (n ≤ 315_569_519_999)
shown_range e n is = ⊎_elim (λ utc. (utc.1, omega (arith, utc.2))) (λ later. (omega (arith, later.1), later.2)) (shown_kind e n is)
