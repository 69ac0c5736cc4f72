-- Two batches' rows merged: the walk over the children of counterparts, side by side, from the next row of each. It relates where the walk starts
-- to the entries that it lists and to where it ends. Assumes nothing.
use Rattle.std.specs.Prelude.{ℕ, suc, ◌≤◌, ◌<◌, ◌≡◌, true, false, List, [], ◌∷◌, ◌++◌, length}
use Rattle.crmf.specs.meaning.Rows.{Row, container}
use Rattle.compare.specs.meaning.Counterparts.{row_at, Child, match_kind}
use Rattle.compare.specs.meaning.Changes.{Change, only_first, only_second, leaves_differ, row_octets}

-- Row k is the next after row i and the rows below it, or there is none and k is the rows' count.
pub record Next (rs : List Row) (i k : ℕ) : Type 0 where
  pub past : i < k
  pub there : k ≤ length rs
  pub below : (m : ℕ) → i < m → m < k → i ≤ (row_at rs m).parent
  pub out : k < length rs → (row_at rs k).parent < i

-- Row i of the first batch and row j of the second are children of rows p and q, of one kind, and matched by one kind.
pub record Alike (A B : List Row) (p q i j : ℕ) : Type 0 where
  pub one : Child A p i
  pub two : Child B q j
  pub kinds : (row_at A i).kind ≡ (row_at B j).kind
  pub matched : match_kind A i ≡ match_kind B j

-- The children of row p of the first batch from row i on, and those of row q of the second from row j on, are merged into some entries; rows k and l
-- come after them.
pub data Merge (s t : List ℕ) (A B : List Row) : (p q i j : ℕ) → List Change → (k l : ℕ) → Type 0 where
  -- there are no more
  over : {p q i j : ℕ} → (Child A p i → ⊥) → (Child B q j → ⊥) → Merge s t A B p q i j [] i j
  -- the first's next child comes before the second's
  first : {p q i j m k l : ℕ} {cs : List Change} → Child A p i → (Child B q j → match_kind A i < match_kind B j) → Next A i m
      → Merge s t A B p q m j cs k l → Merge s t A B p q i j (only_first i ∷ cs) k l
  -- the second's next child comes before the first's
  second : {p q i j m k l : ℕ} {cs : List Change} → Child B q j → (Child A p i → match_kind B j < match_kind A i) → Next B j m
      → Merge s t A B p q i m cs k l → Merge s t A B p q i j (only_second j ∷ cs) k l
  -- both stand at one position, but are of two kinds
  unlike : {p q i j m n k l : ℕ} {cs : List Change} → Child A p i → Child B q j → match_kind A i ≡ match_kind B j
      → ((row_at A i).kind ≡ (row_at B j).kind → ⊥) → Next A i m → Next B j n
      → Merge s t A B p q m n cs k l → Merge s t A B p q i j (only_first i ∷ only_second j ∷ cs) k l
  -- both are leaves, of the same octets
  same : {p q i j k l : ℕ} {cs : List Change} → Alike A B p q i j → container (row_at A i).kind ≡ false
      → row_octets s (row_at A i) ≡ row_octets t (row_at B j)
      → Merge s t A B p q (suc i) (suc j) cs k l → Merge s t A B p q i j cs k l
  -- or of others
  differing : {p q i j k l : ℕ} {cs : List Change} → Alike A B p q i j → container (row_at A i).kind ≡ false
      → (row_octets s (row_at A i) ≡ row_octets t (row_at B j) → ⊥)
      → Merge s t A B p q (suc i) (suc j) cs k l → Merge s t A B p q i j (leaves_differ i j ∷ cs) k l
  -- both are containers: their children, and then the others
  within : {p q i j m n k l : ℕ} {cs ds : List Change} → Alike A B p q i j → container (row_at A i).kind ≡ true
      → Merge s t A B i j (suc i) (suc j) cs m n → Merge s t A B p q m n ds k l → Merge s t A B p q i j (cs ++ ds) k l
