-- Filling the table of an accepted batch by its count writes the batch's rows into the first numbers and leaves the others. If the table
-- has no room for them, it stays as it is. Assumes nothing.
use Prim.Native.Nat.{ℕ, ◌+◌, ◌-◌, ◌*◌, ◌≤◌}
use native.Mathlib.Omega.{arith}
use mathlib.Core.Path.{◌≡◌, refl, sym, ap, subst, ◌∙◌}
use mathlib.Core.Bool.{Bool, true, false}
use mathlib.Core.List.{List}
use lib.Dec.{leb}
use lib.ListN.{length, take, drop}
use lib.Seq.{take_all, take_at, drop_at}
use borrow.Author.Tests.{le-leb, leb-true}
use Rattle.der.specs.meaning.Bounds.{longest}
use Rattle.der.specs.steps.Reading.{tree}
use Rattle.crmf.specs.steps.explain.Tally.{Tally}
use Rattle.crmf.specs.meaning.Notation.{Top}
use Rattle.crmf.specs.meaning.Grammar.{content}
use Rattle.crmf.specs.meaning.Language.{Matches}
use Rattle.crmf.specs.steps.explain.Walk.{every, empty_tally, count_of, Passed}
use Rattle.crmf.specs.meaning.Rows.{Row, no_extent, width, numbers, batch_rows}
pub use Rattle.crmf.specs.meaning.Rows.{Holds}
use Rattle.crmf.specs.steps.rows.Fill.{written, fits, rows_of_input, filled}
use Rattle.crmf.specs.meaning.Lists.{over}
use Rattle.crmf.proofs.theorems.rows.RowsOfLines.{rows_lines, walk_counts}
use Rattle.crmf.proofs.theorems.rows.Writing.{numbers_length, length_over}

-- there is room for rows if the table has `width` numbers for each
pub fits_room : (count : ℕ) (old : List ℕ) → fits count old ≡ leb (width * count) (length old)
unfolding fits
fits_room count old = refl

-- all of some rows written from the first number on
written_all : (old : List ℕ) (count : ℕ) (rs : List Row) → length rs ≡ count → width * count ≤ length old
    → Holds rs count old (written old 0 count rs)
unfolding numbers over
written_all old count rs counted room =
    let size : length (numbers rs) ≡ width * count = omega (arith, numbers_length rs) in
    let place : 0 + length (numbers rs) ≡ width * count = omega arith in
    let rest = drop (0 + length (numbers rs)) old in
    let every_row : take (count - 0) rs ≡ rs = take_all (count - 0) rs (omega arith) in
    let whole : written old 0 count rs ≡ over old 0 (numbers rs) = ap (λ (l : List Row). over old 0 (numbers l)) every_row in
    record {
      counted = counted;
      whole = whole;
      first = ap (take (width * count)) whole ∙ take_at (numbers rs) rest (width * count) size;
      others = ap (drop (width * count)) whole ∙ drop_at (numbers rs) rest (width * count) size
          ∙ ap (λ (n : ℕ). drop n old) place;
      sized = ap length whole ∙ length_over old 0 (numbers rs) (omega arith);
    }

-- Rows written over a table's first numbers, if there is room for them.
pub over_holds : (old : List ℕ) (rs : List Row) → width * length rs ≤ length old → Holds rs (length rs) old (over old 0 (numbers rs))
over_holds old rs room =
    let all = written_all old (length rs) rs refl room in
    subst (Holds rs (length rs) old) all.whole all

module _ (s : List ℕ) (short : length s ≤ longest) {R : ℕ → Bool} (m : Matches R (content Top) (tree 0 s)) where
  -- The rows that filling finds in a batch are those of any derivation.
  pub rows_of : rows_of_input s ≡ batch_rows m
  unfolding rows_of_input batch_rows
  rows_of = rw (rows_of_input, le-leb _ _ short) (rows_lines Top m 0 0 no_extent)

  module _ (r : Tally) (passed : count_of s ≡ Passed r) where
    -- They are as many as counting answers.
    pub rows_counted : length (batch_rows m) ≡ r.count
    unfolding count_of empty_tally batch_rows
    rows_counted =
        let walked = rw (count_of, le-leb _ _ short) at passed in
        omega (arith, walk_counts every Top m empty_tally r 0 0 0 no_extent walked)

    -- With room for them the table then holds these rows, and its other numbers are as they were.
    pub filled_rows : (old : List ℕ) → fits r.count old ≡ true → Holds (batch_rows m) r.count old (filled s r.count old)
    unfolding filled
    filled_rows old room =
        let all = written_all old r.count (batch_rows m) rows_counted (leb-true _ _ (sym (fits_room r.count old) ∙ room)) in
        let same : filled s r.count old ≡ written old 0 r.count (batch_rows m) =
        rw (filled, room) (ap (written old 0 r.count) rows_of) in
        subst (Holds (batch_rows m) r.count old) (sym same) all

-- Without room for them the table stays as it is.
pub filled_short : (s : List ℕ) (count : ℕ) (old : List ℕ) → fits count old ≡ false → filled s count old ≡ old
unfolding filled
filled_short s count old few = rw (filled, few)

-- With room for all of an input's rows they are written into the first numbers, and the others stay.
pub filled_whole : (s old : List ℕ) → fits (length (rows_of_input s)) old ≡ true → filled s (length (rows_of_input s)) old ≡ over old 0 (numbers (rows_of_input s))
unfolding filled
filled_whole s old room = rw (filled, room) (written_all old (length (rows_of_input s)) (rows_of_input s) refl (leb-true _ _ (sym (fits_room (length (rows_of_input s)) old) ∙ room))).whole
