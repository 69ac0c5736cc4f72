-- What the walk that merges two batches' rows is lent and answers. Assumes nothing.
use Rattle.std.specs.Prelude.{ℕ, ◌+◌, ◌≤◌, ◌<◌, ◌≡◌, List, ◌++◌, ℤ, length}
use Rattle.crmf.specs.steps.rows.Fill.{rows_of_input}
use Rattle.compare.specs.declared.merge.Cursor.{Cursor}
use Rattle.compare.specs.declared.merge.Pair.{Pair}
use Rattle.compare.specs.meaning.Counterparts.{row_at}
use Rattle.compare.specs.meaning.Changes.{Change}
use Rattle.compare.specs.steps.Lists.{Added, later_between}
use Rattle.compare.specs.steps.Merging.{Alike, Merge}
use Rattle.compare.specs.steps.Tables.{Tabled}

-- a merge of two batches
abbrev pub Merging : (s t : List ℕ) (p q i j : ℕ) → List Change → (k l : ℕ) → Type 0
Merging s t p q i j cs k l = Merge s t (rows_of_input s) (rows_of_input t) p q i j cs k l

-- The walk stands at rows of the batches below two containers of one kind, with at most one entry for each row before it.
pub record Standing (s t one two : List ℕ) (above : Pair) (at : Cursor) : Type 0 where
  pub first : Tabled s one
  pub second : Tabled t two
  pub kinds : (row_at (rows_of_input s) above.first).kind ≡ (row_at (rows_of_input t) above.second).kind
  pub past_first : above.first < at.first
  pub past_second : above.second < at.second
  pub in_first : at.first ≤ length one
  pub in_second : at.second ≤ length two
  pub few : at.count ≤ at.first + at.second

-- The walk went from a cursor to another and listed some entries: any merge from there on is one from here on, after them.
pub record Went (s t : List ℕ) (above : Pair) (at : Cursor) (from : ℕ) (old : List ℤ) (r : Cursor) (new : List ℤ) : Type 0 where
  pub listed : List Change
  pub goes : (cs : List Change) (k l : ℕ) → Merging s t above.first above.second r.first r.second cs k l
      → Merging s t above.first above.second at.first at.second (listed ++ cs) k l
  pub counted : r.count ≡ at.count + length listed
  pub added : Added (later_between s t) from at.count listed old new
  pub on_first : at.first ≤ r.first
  pub on_second : at.second ≤ r.second
  pub in_first : r.first ≤ length (rows_of_input s)
  pub in_second : r.second ≤ length (rows_of_input t)
  pub few : r.count ≤ r.first + r.second

-- It went further by a row at least.
pub record Stepped (s t : List ℕ) (above : Pair) (at : Cursor) (from : ℕ) (old : List ℤ) (r : Cursor) (new : List ℤ) : Type 0 where
  pub went : Went s t above at from old r new
  pub further : at.first + at.second < r.first + r.second

-- It merged all the children that there are.
pub record Gone (s t : List ℕ) (above : Pair) (at : Cursor) (from : ℕ) (old : List ℤ) (r : Cursor) (new : List ℤ) : Type 0 where
  pub listed : List Change
  pub merge : Merging s t above.first above.second at.first at.second listed r.first r.second
  pub counted : r.count ≡ at.count + length listed
  pub added : Added (later_between s t) from at.count listed old new
  pub on_first : at.first ≤ r.first
  pub on_second : at.second ≤ r.second
  pub in_first : r.first ≤ length (rows_of_input s)
  pub in_second : r.second ≤ length (rows_of_input t)
  pub few : r.count ≤ r.first + r.second

-- The next rows are alike.
abbrev pub Facing : (s t : List ℕ) → Pair → Cursor → Type 0
Facing s t above at = Alike (rows_of_input s) (rows_of_input t) above.first above.second at.first at.second
