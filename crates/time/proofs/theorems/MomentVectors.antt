-- The moments of dates that are known from elsewhere, by the formula that counting gives. Assumes nothing.
use Prim.Native.Nat.{ℕ, ◌+◌, ◌-◌, ◌*◌}
use mathlib.Core.List.{List, [], ◌∷◌, map}
use mathlib.Core.Path.{◌≡◌, refl, ap, ap₂, ◌∙◌}
use Rattle.time.specs.meaning.Calendar.{leap, month_days, total, days_before_month, days_before, Date, seconds}
use Rattle.time.specs.examples.Moments.{dates, moments, last_of_february, years_from, februaries}
use Rattle.time.proofs.theorems.Days.{years_by_formula, years_counted}

-- the seconds up to a date after so many days of whole years
abbrev after : ℕ → Date → ℕ
after days d = (((days + days_before_month d.year d.month + (d.day - 1)) * 24 + d.hour) * 60 + d.minute) * 60 + d.second

by_formula : (d : Date) → seconds d ≡ after (years_by_formula d.year) d
unfolding seconds days_before
by_formula d = ap (λ (days : ℕ). after days d) (years_counted d.year)

by_formulas : {A : Type 0} (f : A → Date) (xs : List A) → map (λ x. seconds (f x)) xs ≡ map (λ x. after (years_by_formula (f x).year) (f x)) xs
by_formulas f [] = refl
by_formulas f (x ∷ xs) = ap₂ (λ (n : ℕ) (l : List ℕ). n ∷ l) (by_formula (f x)) (by_formulas f xs)

-- The readings' moments: 0000-01-01 is 0, and the year 0 has 366 days.
pub moments_counted : map seconds dates ≡ moments
unfolding days_before_month total month_days leap
moments_counted = by_formulas (λ d. d) dates ∙ refl

-- The last second of each February from 1896 to 2104.
pub februaries_counted : map (λ year. seconds (last_of_february year)) (years_from 1896 februaries) ≡ februaries
unfolding days_before_month total month_days leap
februaries_counted = by_formulas last_of_february (years_from 1896 februaries) ∙ refl
