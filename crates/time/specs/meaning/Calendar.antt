-- The Gregorian calendar from the year 0000 on, and moments by counting its days: document 01's "a real Gregorian day", document 02's request A12.
-- Assumes nothing.
use Rattle.std.specs.Prelude.{ℕ, zero, suc, ◌+◌, ◌-◌, ◌*◌, ◌%◌, Bool, true, false, not, ◌&&◌, ◌||◌, List, [], ◌∷◌, leb, eqb, take}
use Rattle.std.proofs.Math.Option.{Option, some, none}
use Rattle.std.proofs.Math.ListN.{get_elem?}

-- the Gregorian leap rule, taken back to the year 0
unfoldable pub leap : ℕ → Bool
leap year = eqb (year % 4) 0 && (not (eqb (year % 100) 0) || eqb (year % 400) 0)

-- the days of each month of a year, from January on
unfoldable pub month_days : ℕ → List ℕ
month_days year = 31 ∷ (elim (leap year) [ true ↦ 29 | false ↦ 28 ]) ∷ 31 ∷ 30 ∷ 31 ∷ 30 ∷ 31 ∷ 31 ∷ 30 ∷ 31 ∷ 30 ∷ 31 ∷ []

-- the days of a month of a year, January being 1, if there is such a month
unfoldable pub days_in : ℕ → ℕ → Option ℕ
days_in year zero = none
days_in year (suc month) = get_elem? (month_days year) month

-- numbers of days added up
unfoldable pub total : List ℕ → ℕ
total [] = 0
total (days ∷ more) = days + total more

-- the days of all years before a year, from the year 0 on, each with the days of its months
unfoldable pub days_before_year : ℕ → ℕ
days_before_year zero = 0
days_before_year (suc year) = days_before_year year + total (month_days year)

-- the days of all months before a month of a year
unfoldable pub days_before_month : ℕ → ℕ → ℕ
days_before_month year month = total (take (month - 1) (month_days year))

-- A date with the time of day, the year in full.
pub record Date : Type 0 where
  pub year : ℕ
  pub month : ℕ
  pub day : ℕ
  pub hour : ℕ
  pub minute : ℕ
  pub second : ℕ

-- whether the month has the day
unfoldable pub is_day : Date → Bool
is_day d = elim (days_in d.year d.month) [ some days ↦ leb 1 d.day && leb d.day days | none ↦ false ]

-- "a real Gregorian day, hour to 23, minute and second to 59"
unfoldable pub is_real : Date → Bool
is_real d = is_day d && leb d.hour 23 && leb d.minute 59 && leb d.second 59

-- the days before a date's, from 0000-01-01 on
unfoldable pub days_before : Date → ℕ
days_before d = days_before_year d.year + days_before_month d.year d.month + (d.day - 1)

-- "the moment as whole seconds from 0000-01-01 00:00:00 in the Gregorian calendar without leap seconds"
unfoldable pub seconds : Date → ℕ
seconds d = ((days_before d * 24 + d.hour) * 60 + d.minute) * 60 + d.second

-- the moment of a date, if it is real
unfoldable pub moment : Date → Option ℕ
moment d = elim (is_real d) [ true ↦ some (seconds d) | false ↦ none ]
