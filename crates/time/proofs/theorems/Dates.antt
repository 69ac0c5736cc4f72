-- Months, days and dates: what the code tests of a date's parts is what the definitions say of them. Assumes nothing.
use Prim.Native.Nat.{ℕ, zero, suc, ◌-◌, ◌≤◌, ◌<◌}
use mathlib.Core.Bool.{Bool, true, false, ◌&&◌, and-false, and-true}
use mathlib.Core.List.{List, [], ◌∷◌}
use mathlib.Core.Option.{Option, some, none, none-ne-some, bind}
use mathlib.Core.Path.{◌≡◌, refl, sym, ap, ◌∙◌}
use borrow.Author.Tests.{leb-true}
use native.Mathlib.Omega.{arith}
use lib.Dec.{leb}
use lib.ListN.{length, get_or, get_elem?}
use Rattle.time.specs.meaning.Calendar.{leap, month_days, days_in, Date, is_day, is_real, seconds, moment}
use Rattle.time.proofs.theorems.Digits.{both}
use Rattle.time.proofs.theorems.Tables.{at_most, entry_there}

-- the days of each month of a common year
abbrev pub common_days : List ℕ
common_days = 31 ∷ 28 ∷ 31 ∷ 30 ∷ 31 ∷ 30 ∷ 31 ∷ 31 ∷ 30 ∷ 31 ∷ 30 ∷ 31 ∷ []

-- an entry that is there, and none
entry_at : (l : List ℕ) (i d : ℕ) → i < length l → get_elem? l i ≡ some (get_or l i d)
entry_at [] i d low = absurd (omega (arith, low))
entry_at (a ∷ l) zero d low = refl
entry_at (a ∷ l) (suc i) d low = entry_at l i d (omega (arith, low))

entry_past : (l : List ℕ) (i : ℕ) → length l ≤ i → get_elem? l i ≡ none
entry_past [] i high = refl
entry_past (a ∷ l) zero high = absurd (omega (arith, high))
entry_past (a ∷ l) (suc i) high = entry_past l i (omega (arith, high))

-- the list has the days of every month, but for February in a leap year
days_common : (year i : ℕ) → (i ≡ 1 → leap year ≡ false) → get_elem? (month_days year) i ≡ get_elem? common_days i
unfolding month_days
days_common year zero common = refl
days_common year (suc zero) common = rw (common refl)
days_common year (suc (suc i)) common = refl

place : (k i : ℕ) → i ≡ suc k - 1 → k ≡ i
place k i at = omega (arith, at)

-- there is no month 0
pub days_zero : (year month : ℕ) → (1 ≤ month → ⊥) → days_in year month ≡ none
unfolding days_in
days_zero year zero low = refl
days_zero year (suc i) low = absurd (low (omega arith))

-- the days of a month, by its place in the list
pub days_there : (year month i d : ℕ) → (1 ≤ month) × (i ≡ month - 1) → (month ≡ 2 → leap year ≡ false) → i < 12
    → days_in year month ≡ some (get_or common_days i d)
unfolding days_in
days_there year zero i d (low, at) common few = absurd (omega (arith, low))
days_there year (suc k) i d (low, at) common few =
    rw (place k i at) (days_common year i (λ one. common (omega (arith, at, one))) ∙ entry_at common_days i d few)

pub days_past : (year month i : ℕ) → (1 ≤ month) × (i ≡ month - 1) → 12 ≤ i → days_in year month ≡ none
unfolding days_in
days_past year zero i (low, at) high = absurd (omega (arith, low))
days_past year (suc k) i (low, at) high =
    rw (place k i at) (days_common year i (λ one. absurd (omega (arith, high, one))) ∙ entry_past common_days i high)

-- February of a leap year, and of a common one
pub days_leap : (year : ℕ) → leap year ≡ true → days_in year 2 ≡ some 29
unfolding days_in month_days
days_leap year is = rw is

pub days_february : (month i d : ℕ) → month ≡ 2 → (1 ≤ month) × (i ≡ month - 1) → get_or common_days i d ≡ 28
days_february month i d two (low, at) = ap (λ k. get_or common_days k d) (second i two at)
  where
    second : (i : ℕ) → month ≡ 2 → i ≡ month - 1 → i ≡ 1
    second i two at = omega (arith, two, at)

-- there are 12 months, and none has more than 31 days
pub month_days_lem : (year month days : ℕ) → days_in year month ≡ some days → (month ≤ 12) × (days ≤ 31)
unfolding days_in month_days
month_days_lem year zero days is = absurd (none-ne-some days is)
month_days_lem year (suc month) days is =
    let p = entry_there (month_days year) 31 (are (leap year)) month days is in (omega (arith, p.0), p.1)
  where
    are : (b : Bool) → at_most (31 ∷ (elim b as (λ x. ℕ) [ true ↦ 29 | false ↦ 28 ]) ∷ 31 ∷ 30 ∷ 31 ∷ 30 ∷ 31 ∷ 31 ∷ 30 ∷ 31 ∷ 30 ∷ 31 ∷ []) 31 ≡ true
    are true = refl
    are false = refl

-- what a test of a day shows of its month
pub day_bounds : (year month day days : ℕ) → days_in year month ≡ some days → leb 1 day && leb day days ≡ true → (month ≤ 12) × (1 ≤ day) × (day ≤ 31)
day_bounds year month day days there is =
    let p = both (leb 1 day) _ is in
    let m = month_days_lem year month days there in
    (m.0, leb-true 1 day p.0, omega (arith, leb-true day days p.1, m.1))

-- the tests of a date's parts, whose month has so many days, and of the Z after them
abbrev pub tests : (days day hour minute second : ℕ) → Bool → Bool
tests days day hour minute second z = ((((leb 1 day && leb day days) && leb hour 23) && leb minute 59) && leb second 59) && z

-- what the tests of all parts show of them
pub date_bounds : (year month days day hour minute second : ℕ) (z : Bool) → days_in year month ≡ some days → tests days day hour minute second z ≡ true
    → ((month ≤ 12) × (1 ≤ day) × (day ≤ 31)) × (hour ≤ 23) × (minute ≤ 59) × (second ≤ 59)
date_bounds year month days day hour minute second z there is =
    let s = (both _ z is).0 in
    let m = both _ (leb second 59) s in
    let h = both _ (leb minute 59) m.0 in
    let d = both _ (leb hour 23) h.0 in
    (day_bounds year month day days there d.0, leb-true hour 23 d.1, leb-true minute 59 h.1, leb-true second 59 m.1)

-- The parts of a date, and whether Z comes after them.
module _ (year month day hour minute second : ℕ) (z : Bool) where
  abbrev pub date : Date
  date = record { year = year; month = month; day = day; hour = hour; minute = minute; second = second }

  -- the moment of the date, if Z comes after it
  abbrev pub moment_of : Option ℕ
  moment_of = bind (elim z as (λ x. Option Date) [ true ↦ some date | false ↦ none ]) moment

  -- no day of what is no month is real
  pub no_month : days_in year month ≡ none → moment_of ≡ none
  unfolding bind is_real is_day moment
  no_month gone = go z
    where
      go : (t : Bool) → bind (elim t as (λ x. Option Date) [ true ↦ some date | false ↦ none ]) moment ≡ none
      go true = rw (moment, is_real, is_day, gone)
      go false = refl

  -- the parts pass the tests exactly if they are a real date with Z after it
  pub parts_tested : (days : ℕ) (t : Bool) → days_in year month ≡ some days → tests days day hour minute second z ≡ t
      → moment_of ≡ elim t as (λ x. Option ℕ) [ true ↦ some (seconds date) | false ↦ none ]
  unfolding bind is_real is_day moment
  parts_tested days t there is = go z is
    where
      go : (y : Bool) → tests days day hour minute second y ≡ t
          → bind (elim y as (λ x. Option Date) [ true ↦ some date | false ↦ none ]) moment
          ≡ elim t as (λ x. Option ℕ) [ true ↦ some (seconds date) | false ↦ none ]
      go true passes = rw (moment, is_real, is_day, there, sym passes, and-true ((((leb 1 day && leb day days) && leb hour 23) && leb minute 59) && leb second 59))
      go false passes = rw (sym passes) (rw (and-false ((((leb 1 day && leb day days) && leb hour 23) && leb minute 59) && leb second 59)))

-- without a date there is no moment, whatever a test says
without : (b : Bool) → ◌≡◌ {A = Option ℕ} none (elim b as (λ x. Option ℕ) [ true ↦ none | false ↦ none ])
without true = refl
without false = refl

-- The parts of a date in a year, each if it is written with two digits, and whether Z comes after them.
module _ (year : ℕ) (month day hour minute second : Option ℕ) (z : Bool) where
  -- the date that they are
  abbrev pub date_of : Option Date
  date_of =
      bind month (λ mo. bind day (λ d. bind hour (λ h. bind minute (λ mi. bind second (λ s. elim z as (λ x. Option Date) [
        | true ↦ some (record { year = year; month = mo; day = d; hour = h; minute = mi; second = s })
        | false ↦ none
      ])))))

-- a date's year is the one that it is given, so that a test of it is a test of that
pub year_tested : (first year : ℕ) (month day hour minute second : Option ℕ) (z : Bool)
    → bind {B = ℕ} (date_of year month day hour minute second z) (λ d. elim (leb first d.year) as (λ x. Option ℕ) [ true ↦ moment d | false ↦ none ])
    ≡ elim (leb first year) as (λ x. Option ℕ) [ true ↦ bind (date_of year month day hour minute second z) moment | false ↦ none ]
unfolding bind
year_tested first year none day hour minute second z = without (leb first year)
year_tested first year (some mo) none hour minute second z = without (leb first year)
year_tested first year (some mo) (some d) none minute second z = without (leb first year)
year_tested first year (some mo) (some d) (some h) none second z = without (leb first year)
year_tested first year (some mo) (some d) (some h) (some mi) none z = without (leb first year)
year_tested first year (some mo) (some d) (some h) (some mi) (some s) false = without (leb first year)
year_tested first year (some mo) (some d) (some h) (some mi) (some s) true = refl
