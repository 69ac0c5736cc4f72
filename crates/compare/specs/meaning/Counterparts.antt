-- Which rows of two batches are counterparts: document 02's request A5, SPECIFICATION 11. A relation on row numbers; it names no walk. Assumes
-- nothing.
use Rattle.std.specs.Prelude.{ℕ, zero, suc, ◌+◌, ◌<◌, ◌≡◌, Bool, true, false, ◌&&◌, ◌||◌, List, eqb, length, get_or}
use Rattle.crmf.specs.meaning.Kinds as kinds
use Rattle.crmf.specs.meaning.Rows.{Row}

-- the row with a number; of no kind if there is none
abbrev pub row_at : List Row → ℕ → Row
row_at rs i = get_or rs i (record { kind = kinds.none; first = 0; whole = 0; parent = 0; content = 0 })

-- Row i is a child of row p. The batch, which is "its own parent", is nobody's child.
pub record Child (rs : List Row) (p i : ℕ) : Type 0 where
  pub some : 0 < i
  pub there : i < length rs
  pub below : (row_at rs i).parent ≡ p

-- "Messages are matched by position; items in controls and regInfo by position": whether the children of a container are, by its kind
unfoldable pub by_position : ℕ → Bool
by_position kind = (eqb kind kinds.batch || eqb kind kinds.controls) || eqb kind kinds.reg_info

-- "other children by kind and occurrence": the kind that a row is matched by, none if by position
unfoldable pub match_kind : List Row → ℕ → ℕ
match_kind rs i =
    elim (by_position (row_at rs (row_at rs i).parent).kind) [ true ↦ kinds.none | false ↦ (row_at rs i).kind ]

-- whether row i is a child of row p and is matched by a kind
unfoldable pub counts : List Row → (p kind i : ℕ) → Bool
counts rs p kind zero = false
counts rs p kind (suc i) = eqb (row_at rs (suc i)).parent p && eqb (match_kind rs (suc i)) kind

-- how many such children stand before row i
unfoldable pub count_before : List Row → (p kind i : ℕ) → ℕ
count_before rs p kind zero = 0
count_before rs p kind (suc i) = count_before rs p kind i + elim (counts rs p kind i) [ true ↦ 1 | false ↦ 0 ]

-- A spot among the children of a container: "a position, or a kind with its occurrence", each from 0. A position is of no kind.
pub record Spot : Type 0 where
  pub kind : ℕ
  pub number : ℕ

-- the spot of a row among its parent's children
unfoldable pub spot : List Row → ℕ → Spot
spot rs i = record { kind = match_kind rs i; number = count_before rs (row_at rs i).parent (match_kind rs i) i }

-- Row i of the first batch and row j of the second are counterparts: both are the batch, or they are children of counterparts, "of one kind" and
-- at one spot.
pub data Counterpart (A B : List Row) : ℕ → ℕ → Type 0 where
  batches : Counterpart A B 0 0
  children : {p q i j : ℕ} → Counterpart A B p q → Child A p i → Child B q j → (row_at A i).kind ≡ (row_at B j).kind → spot A i ≡ spot B j
      → Counterpart A B i j

-- Row i stands below row k: it is a child of row k, or of a row below it.
pub data Below (rs : List Row) (k : ℕ) : ℕ → Type 0 where
  child : {i : ℕ} → Child rs k i → Below rs k i
  deeper : {p i : ℕ} → Below rs k p → Child rs p i → Below rs k i
