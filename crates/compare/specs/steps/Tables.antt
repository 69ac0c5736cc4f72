-- A batch's rows in a table, each packed into a number, and what the code asks of it. Assumes nothing.
use Rattle.std.specs.Prelude.{ℕ, ◌≤◌, ◌<◌, ◌≡◌, Bool, ◌&&◌, List, eqb, ltb, length, get_or}
use Rattle.crmf.specs.meaning.Rows.{Row}
use Rattle.crmf.specs.steps.rows.Fill.{rows_of_input}
use Rattle.crmf.specs.steps.rows.Packing.{pack_row, kind_of, first_of, whole_of, parent_of}
use Rattle.compare.specs.meaning.Counterparts.{row_at}
use Rattle.compare.specs.steps.Arranged.{Arranged}

-- A table has the rows of a batch.
pub record Tabled (s table : List ℕ) : Type 0 where
  pub arranged : Arranged s (rows_of_input s)
  pub sized : length table ≡ length (rows_of_input s)
  pub kinds : (i : ℕ) → i < length table → kind_of (get_or table i 0) ≡ (row_at (rows_of_input s) i).kind
  pub firsts : (i : ℕ) → i < length table → first_of (get_or table i 0) ≡ (row_at (rows_of_input s) i).first
  pub wholes : (i : ℕ) → i < length table → whole_of (get_or table i 0) ≡ (row_at (rows_of_input s) i).whole
  pub parents : (i : ℕ) → i < length table → parent_of (get_or table i 0) ≡ (row_at (rows_of_input s) i).parent
  -- and no more than a batch can have
  pub few : length table ≤ 32767

-- whether there is a row with a number, and it has a parent
unfoldable pub child_at : List ℕ → (p i : ℕ) → Bool
child_at table p i = ltb i (length table) && eqb (parent_of (get_or table i 0)) p

-- Row k is the first after row i with an earlier parent, or the rows' count.
pub record Ended (table : List ℕ) (i k : ℕ) : Type 0 where
  pub past : i < k
  pub there : k ≤ length table
  pub below : (m : ℕ) → i < m → m < k → i ≤ parent_of (get_or table m 0)
  pub out : k < length table → parent_of (get_or table k 0) < i

-- A row is read back from the number that it is packed into.
pub record ReadBack (r : Row) : Type 0 where
  pub kind : kind_of (pack_row r) ≡ r.kind
  pub first : first_of (pack_row r) ≡ r.first
  pub whole : whole_of (pack_row r) ≡ r.whole
  pub parent : parent_of (pack_row r) ≡ r.parent

-- A batch whose rows can be put into a table: how many they are, and that each is read back from its number.
pub record Ready (s : List ℕ) (count : ℕ) : Type 0 where
  pub arranged : Arranged s (rows_of_input s)
  pub counted : count ≡ length (rows_of_input s)
  pub few : count ≤ 32767
  pub read_back : (i : ℕ) → i < count → ReadBack (row_at (rows_of_input s) i)
