-- The moments that times show, by the numbers that their digits make. Assumes nothing.
use Prim.Native.Nat.{ℕ, ◌+◌, ◌*◌}
use mathlib.Core.Bool.{true, false}
use mathlib.Core.List.{List}
use mathlib.Core.Option.{Option, some, none, bind}
use mathlib.Core.Path.{◌≡◌, refl}
use borrow.Author.Tests.{eq-eqb, ne_eqb}
use lib.Dec.{leb, eqb}
use lib.ListN.{length, get_or}
use Rattle.time.specs.meaning.Calendar.{moment}
use Rattle.time.specs.meaning.Time.{pair_at, date_at, century, utc_date, generalized_date, first_generalized_year, utc_moment, generalized_moment, time_moment}
use Rattle.time.proofs.theorems.Dates.{year_tested}

module _ (c : List ℕ) where
  -- other lengths
  pub utc_length : (length c ≡ 13 → ⊥) → utc_moment c ≡ none
  unfolding utc_moment utc_date bind
  utc_length other = rw (utc_moment, utc_date, ne_eqb _ _ other)

  pub generalized_length : (length c ≡ 15 → ⊥) → generalized_moment c ≡ none
  unfolding generalized_moment generalized_date bind
  generalized_length other = rw (generalized_moment, generalized_date, ne_eqb _ _ other)

  -- the year in two digits, or not
  pub utc_year : (yy : ℕ) → length c ≡ 13 → pair_at c 0 ≡ some yy → utc_moment c ≡ bind (date_at (century yy) c 2) moment
  unfolding utc_moment utc_date bind
  utc_year yy size is = rw (utc_moment, utc_date, eq-eqb _ _ size, is)

  pub utc_no_year : length c ≡ 13 → pair_at c 0 ≡ none → utc_moment c ≡ none
  unfolding utc_moment utc_date bind
  utc_no_year size is = rw (utc_moment, utc_date, eq-eqb _ _ size, is)

  -- the year in two times two digits, or not
  module _ (size : length c ≡ 15) where
    pub generalized_year : (hundreds rest : ℕ) → pair_at c 0 ≡ some hundreds → pair_at c 2 ≡ some rest
        → generalized_moment c
        ≡ elim (leb first_generalized_year (hundreds * 100 + rest)) as (λ x. Option ℕ) [ true ↦ bind (date_at (hundreds * 100 + rest) c 4) moment | false ↦ none ]
    unfolding generalized_moment generalized_date date_at bind
    generalized_year hundreds rest high low =
        rw (generalized_moment, generalized_date, eq-eqb _ _ size, high, low)
        (year_tested first_generalized_year (hundreds * 100 + rest) (pair_at c 4) (pair_at c 6) (pair_at c 8) (pair_at c 10) (pair_at c 12) (eqb (get_or c 14 0) 0x5A))

    pub generalized_no_hundreds : pair_at c 0 ≡ none → generalized_moment c ≡ none
    unfolding generalized_moment generalized_date bind
    generalized_no_hundreds is = rw (generalized_moment, generalized_date, eq-eqb _ _ size, is)

    pub generalized_no_rest : (hundreds : ℕ) → pair_at c 0 ≡ some hundreds → pair_at c 2 ≡ none → generalized_moment c ≡ none
    unfolding generalized_moment generalized_date bind
    generalized_no_rest hundreds high is = rw (generalized_moment, generalized_date, eq-eqb _ _ size, high, is)

-- what an element with the identifier of a Time shows
pub time_utc : (c : List ℕ) → time_moment 0x17 c ≡ utc_moment c
unfolding time_moment
time_utc c = refl

pub time_generalized : (c : List ℕ) → time_moment 0x18 c ≡ generalized_moment c
unfolding time_moment
time_generalized c = refl
