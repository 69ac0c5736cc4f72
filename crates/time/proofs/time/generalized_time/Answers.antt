-- `time::time::generalized_time` meets its contract: 15 octets that begin with four digits of a year from 2050 on are judged as the definition does,
-- and all others are refused. Assumes nothing.
use Prim.Native.Nat.{ℕ, ◌+◌, ◌*◌, ◌≤◌}
use mathlib.Core.Bool.{true, false}
use mathlib.Core.Option.{Option, none, bind}
use mathlib.Core.Path.{◌≡◌, ◌∙◌}
use native.Mathlib.Omega.{arith}
use borrow.Author.Tests.{le-leb, lt-leb}
use lib.Dec.{leb}
use Rattle.time.specs.meaning.Calendar.{moment}
use Rattle.time.specs.meaning.Time.{date_at, first_generalized_year, generalized_moment}
use Rattle.time.specs.steps.Moments.{as_option}
use Rattle.time.proofs.theorems.Digits.{pair_most}
use Rattle.time.proofs.theorems.Telling.{told_some, told_none}
use Rattle.time.proofs.theorems.Times.{generalized_length, generalized_year, generalized_no_hundreds, generalized_no_rest}
use Rattle.time.proofs.time.generalized_time.Goals as goal
use Rattle.time.proofs.time.generalized_time.Goals.{In_ok-year}

pub returns-then-content-ne15 : goal.returns-then-content-ne15
unfolding as_option
returns-then-content-ne15 c = rw (generalized_length c.args.content.now c.if-content-ne15.true)

pub returns-in_err-pair_at : goal.returns-in_err-pair_at
unfolding as_option
returns-in_err-pair_at c =
    c.from_residual.ensures
    ∙ rw (generalized_no_hundreds c.args.content.now c.if-content-ne15.false (told_none _ _ c.pair_at.ensures c.in_err-pair_at.was))

pub overflow_mul-year : goal.overflow_mul-year
overflow_mul-year c = omega (arith, pair_most c.args.content.now 0 _ (told_some _ _ _ c.pair_at.ensures c.in_ok-pair_at.was))

pub returns-in_err-year : goal.returns-in_err-year
unfolding as_option
returns-in_err-year c =
    c.from_residual-in_err-year.ensures
    ∙ rw (generalized_no_rest c.args.content.now c.if-content-ne15.false _ (told_some _ _ _ c.pair_at.ensures c.in_ok-pair_at.was) (told_none _ _ c.pair_at-2.ensures c.in_err-year.was))

-- the year has at most four digits
most : (c : In_ok-year) → (c.in_ok-pair_at.field-0 ≤ 99) × (c.in_ok-year.field-0 ≤ 99)
most c =
    let s = c.args.content.now in
    (pair_most s 0 _ (told_some _ _ _ c.pair_at.ensures c.in_ok-pair_at.was), pair_most s 2 _ (told_some _ _ _ c.pair_at-2.ensures c.in_ok-year.was))

pub overflow_add-year : goal.overflow_add-year
overflow_add-year c = omega (arith, most (goal.at.overflow_add-year c).In_ok-year)

-- the year's moment is the definition's
year : (c : In_ok-year) →
    let y = c.in_ok-pair_at.field-0 * 100 + c.in_ok-year.field-0 in
    generalized_moment c.args.content.now ≡ elim (leb first_generalized_year y) as (λ x. Option ℕ) [ true ↦ bind (date_at y c.args.content.now 4) moment | false ↦ none ]
year c =
    generalized_year c.args.content.now c.if-content-ne15.false _ _ (told_some _ _ _ c.pair_at.ensures c.in_ok-pair_at.was)
    (told_some _ _ _ c.pair_at-2.ensures c.in_ok-year.was)

pub returns-then-year-lt-FIRST_GENERALIZED_YEAR : goal.returns-then-year-lt-FIRST_GENERALIZED_YEAR
unfolding as_option
returns-then-year-lt-FIRST_GENERALIZED_YEAR c =
    rw (year (goal.at.returns-then-year-lt-FIRST_GENERALIZED_YEAR c).In_ok-year, lt-leb first_generalized_year _ c.if-year-lt-FIRST_GENERALIZED_YEAR.true)

pub moment_at-requires : goal.moment_at-requires
moment_at-requires c =
    (omega (arith, most (goal.at.moment_at-requires c).In_ok-year), omega arith)

pub returns : goal.returns
returns c =
    c.moment_at.ensures ∙ rw (year (goal.at.returns c).In_ok-year, le-leb first_generalized_year _ c.if-year-lt-FIRST_GENERALIZED_YEAR.false)
