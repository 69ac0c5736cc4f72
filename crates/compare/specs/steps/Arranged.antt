-- What is known of a batch's rows: how they stand by their parents, kinds and places. Assumes nothing.
use Rattle.std.specs.Prelude.{ℕ, ◌+◌, ◌≤◌, ◌<◌, ◌≡◌, true, false, List, length}
use Rattle.crmf.specs.meaning.Kinds as kinds
use Rattle.crmf.specs.meaning.Rows.{Row, container}
use Rattle.compare.specs.meaning.Counterparts.{row_at, by_position}

-- Rows as those of a batch stand, over its octets.
pub record Arranged (s : List ℕ) (rs : List Row) : Type 0 where
  pub some : 0 < length rs
  pub batch : (row_at rs 0).kind ≡ kinds.batch
  pub own : (row_at rs 0).parent ≡ 0
  -- the parent of every other row is an earlier one,
  pub earlier : (i : ℕ) → 0 < i → i < length rs → (row_at rs i).parent < i
  -- and a container
  pub held : (i : ℕ) → i < length rs → container (row_at rs (row_at rs i).parent).kind ≡ true
  -- rows below a row come right after it
  pub nested : (i k : ℕ) → i < k → k < length rs → (row_at rs k).parent < i → (row_at rs k).parent ≤ (row_at rs i).parent
  -- kinds ascend among children that are matched by kind
  pub ascends : (i j : ℕ) → 0 < i → i < j → j < length rs → (row_at rs i).parent ≡ (row_at rs j).parent
      → by_position (row_at rs (row_at rs j).parent).kind ≡ false → (row_at rs i).kind ≤ (row_at rs j).kind
  -- every row lies in the octets
  pub within : (i : ℕ) → i < length rs → (row_at rs i).first + (row_at rs i).whole ≤ length s
