-- A date's parts as numbers, with 100 for two octets that are no digits and 0 days for no month: the tests of these say whether the parts are a
-- real date, and the moment is then that of the numbers. Assumes nothing.
use Prim.Native.Nat.{ℕ, zero, suc, ◌≤◌}
use mathlib.Core.Bool.{Bool, true, false, ◌&&◌, and-false, and-true, true≢false}
use mathlib.Core.Option
use mathlib.Core.Option.{Option, some, none, bind}
use mathlib.Core.Path.{◌≡◌, refl, sym, ◌∙◌}
use borrow.Author.Tests.{leb-true, lt-leb}
use native.Mathlib.Omega.{arith}
use lib.Dec.{leb}
use Rattle.time.specs.meaning.Calendar.{days_in, Date, is_day, is_real, seconds, moment}
use Rattle.time.proofs.theorems.Digits.{both}
use Rattle.time.proofs.theorems.Dates.{date_of, month_days_lem}

-- what a test of a day shows of its month
day_bounds : (year month day : ℕ) → leb 1 day && leb day (Option.get_or (days_in year month) 0) ≡ true → (month ≤ 12) × (1 ≤ day) × (day ≤ 31)
day_bounds year month day is =
    let p = both (leb 1 day) _ is in
    go (days_in year month) refl (leb-true 1 day p.0) (leb-true day _ p.1)
  where
    go : (o : Option ℕ) → days_in year month ≡ o → 1 ≤ day → day ≤ Option.get_or o 0 → (month ≤ 12) × (1 ≤ day) × (day ≤ 31)
    go none e low high = absurd (omega arith)
    go (some days) e low high = let p = month_days_lem year month days e in (p.0, low, omega (arith, p.1))

-- a test that can't pass fails
refuted : (b : Bool) → (b ≡ true → ⊥) → b ≡ false
refuted true h = absurd (h refl)
refuted false h = refl

-- no day of month 100, and no day 100, is real
no_month : (year day : ℕ) → leb 1 day && leb day (Option.get_or (days_in year 100) 0) ≡ false
no_month year day = refuted _ (λ is. absurd (omega (arith, (day_bounds year 100 day is).0)))

no_hundred : (year month : ℕ) → leb 1 100 && leb 100 (Option.get_or (days_in year month) 0) ≡ false
no_hundred year month = refuted _ (λ is. absurd (omega (arith, (day_bounds year month 100 is).2)))

-- a day is tested with 0 days for no month
day_tested : (day : ℕ) (o : Option ℕ)
    → leb 1 day && leb day (Option.get_or o 0) ≡ elim o as (λ x. Bool) [ some days ↦ leb 1 day && leb day days | none ↦ false ]
day_tested day none = no_day day
  where
    no_day : (d : ℕ) → leb 1 d && leb d 0 ≡ false
    no_day zero = refl
    no_day (suc d) = rw (lt-leb (suc d) 0 (omega arith)) (and-false (leb 1 (suc d)))
day_tested day (some days) = refl

-- The parts of a date in a year, each if it is written with two digits, and whether Z comes after them.
module _ (year : ℕ) (month day hour minute second : Option ℕ) (z : Bool) where
  -- the tests of the parts, coded with 100 for those that aren't written with two digits
  abbrev pub tests : Bool
  tests =
      leb 1 (Option.get_or day 100) && leb (Option.get_or day 100) (Option.get_or (days_in year (Option.get_or month 100)) 0) && leb (Option.get_or hour 100) 23
      && leb (Option.get_or minute 100) 59
      && leb (Option.get_or second 100) 59
      && z

  -- the coded date
  abbrev pub coded_date : Date
  coded_date =
      record {
        year = year;
        month = Option.get_or month 100;
        day = Option.get_or day 100;
        hour = Option.get_or hour 100;
        minute = Option.get_or minute 100;
        second = Option.get_or second 100;
      }

-- what fails the tests has no moment
lost : (x t : Bool) (n : ℕ) → x ≡ false → x ≡ t → ◌≡◌ {A = Option ℕ} none (elim t as (λ y. Option ℕ) [ true ↦ some n | false ↦ none ])
lost x true n e f = absurd (true≢false (sym f ∙ e))
lost x false n e f = refl

-- the parts pass the tests exactly if they are a real date, whose moment is the coded date's
pub moment_tested : (year : ℕ) (month day hour minute second : Option ℕ) (z t : Bool) → tests year month day hour minute second z ≡ t
    → bind (date_of year month day hour minute second z) moment
    ≡ elim t as (λ x. Option ℕ) [ true ↦ some (seconds (coded_date year month day hour minute second z)) | false ↦ none ]
unfolding bind is_real is_day moment
moment_tested year none day hour minute second z t is =
    lost _ t _ (rw (no_month year (Option.get_or day 100))) is
moment_tested year (some mo) none hour minute second z t is = lost _ t _ (rw (no_hundred year mo)) is
moment_tested year (some mo) (some d) none minute second z t is = lost _ t _ (simp and-false) is
moment_tested year (some mo) (some d) (some h) none second z t is = lost _ t _ (simp and-false) is
moment_tested year (some mo) (some d) (some h) (some mi) none z t is = lost _ t _ (simp and-false) is
moment_tested year (some mo) (some d) (some h) (some mi) (some s) false t is = lost _ t _ (simp and-false) is
moment_tested year (some mo) (some d) (some h) (some mi) (some s) true t is = by_test
  where
    date : Date
    date = record { year = year; month = mo; day = d; hour = h; minute = mi; second = s }

    real : is_real date ≡ t
    real = sym (rw (day_tested d (days_in year mo), and-true)) ∙ is

    by_test : moment date ≡ elim t as (λ x. Option ℕ) [ true ↦ some (seconds date) | false ↦ none ]
    by_test = rw (moment, real)
