-- A whole input that is not too long: counting walks over its tree, and the rows that are found in it are as many as were counted, with the
-- long certReqId that was met. Assumes nothing.
use Prim.Native.Nat.{ℕ, ◌≤◌}
use native.Mathlib.Omega.{arith}
use mathlib.Core.Path.{◌≡◌, sym, ap, ◌∙◌}
use mathlib.Core.List.{List}
use lib.ListN.{length}
use borrow.Author.Tests.{le-leb}
use Rattle.der.specs.meaning.Bounds.{longest}
use Rattle.der.specs.steps.Reading.{tree}
use Rattle.crmf.specs.steps.explain.Tally.{Tally}
use Rattle.crmf.specs.meaning.Notation.{Top}
use Rattle.crmf.specs.steps.grammar.Lines.{start}
use Rattle.crmf.specs.steps.explain.Walk.{walk, every, empty_tally, count_of, Passed}
use Rattle.crmf.specs.meaning.Rows.{no_extent, Row}
use Rattle.crmf.specs.steps.explain.LongIds.{first_long}
use Rattle.crmf.specs.steps.rows.Fill.{rows_from, rows_of_input}
use Rattle.crmf.proofs.theorems.rows.RowsOfLines.{rows_count}
use Rattle.crmf.proofs.theorems.explain.LongIds.{rows_long}

module _ (s : List ℕ) (short : length s ≤ longest) where
  -- Counting is the walk over the input's tree that reads every form.
  pub count_whole : count_of s ≡ walk every empty_tally (start Top) 0 (tree 0 s)
  unfolding count_of
  count_whole = rw (count_of, le-leb _ _ short)

  -- The rows are those of the lines from the first on.
  pub rows_whole : rows_of_input s ≡ rows_from (start Top) (tree 0 s) 0 0 no_extent
  unfolding rows_of_input
  rows_whole = rw (rows_of_input, le-leb _ _ short)

  module _ (r : Tally) (passed : count_of s ≡ Passed r) where
    -- They are as many as were counted.
    pub whole_count : length (rows_of_input s) ≡ r.count
    unfolding empty_tally
    whole_count =
        omega (arith, ap (λ (l : List Row). length l) rows_whole, rows_count every (tree 0 s) empty_tally r (start Top) 0 0 0 no_extent (sym count_whole ∙ passed))

    -- The first long certReqId of them is the one that was met.
    pub whole_long : first_long (0, 0) (rows_of_input s) ≡ (r.long.whole, r.long.place)
    unfolding empty_tally
    whole_long = ap (first_long (0, 0)) rows_whole ∙ rows_long every (tree 0 s) empty_tally r (start Top) 0 0 0 no_extent (sym count_whole ∙ passed)
