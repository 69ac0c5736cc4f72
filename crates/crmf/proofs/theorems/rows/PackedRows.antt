-- Packed rows: each row of a batch has its kind, first byte, whole length and parent's row in one number, and they are read back from it.
-- Assumes nothing.
use Prim.Native.Nat.{ℕ, ◌+◌, ◌≤◌, ◌<◌}
use native.Mathlib.Decide.{dec_le}
use native.Mathlib.Omega.{arith}
use mathlib.Core.Path.{◌≡◌, refl, ap, ◌∙◌}
use mathlib.Core.Bool.{Bool}
use mathlib.Core.List.{List, ◌∷◌, ◌++◌, append-nil}
use lib.Dec.{ltb}
use lib.ListN.{length, take, drop, get_or, length-map, get_or-map}
use lib.Seq.{take_all, drop-length}
use borrow.Author.Tests.{ltb-true}
use Rattle.der.specs.meaning.Tree.{Tree, encode, WellFormed}
use Rattle.der.specs.meaning.Bounds.{longest}
use Rattle.crmf.specs.meaning.Lists.{over}
use Rattle.crmf.specs.meaning.Kinds.{none, row_kinds}
use Rattle.crmf.specs.meaning.Notation.{Top}
use Rattle.crmf.specs.meaning.Grammar.{content}
use Rattle.crmf.specs.meaning.Language.{Matches}
use Rattle.crmf.specs.meaning.Rows.{Row, batch_rows}
use Rattle.crmf.specs.steps.rows.Fill.{rows_of_input}
use Rattle.crmf.specs.steps.rows.Packing.{kinds, places, pack_row, packed_rows, kind_of, first_of, whole_of, parent_of}
use Rattle.crmf.proofs.theorems.lists.Tests.{all_among}
use Rattle.crmf.proofs.theorems.rows.RowsInPlace.{absent_row}
use Rattle.crmf.proofs.theorems.rows.RowKinds.{row_known}
use Rattle.crmf.proofs.theorems.rows.RowLaws.{row_zero, row_parent}
use Rattle.crmf.proofs.theorems.pieces.Assembly.{rows_few}
use Rattle.crmf.proofs.theorems.pieces.AssembledOctets.{row_ends}

-- There is one number for each row.
pub packed_length : (rs : List Row) → length (packed_rows rs) ≡ length rs
unfolding packed_rows
packed_length rs = length-map rs pack_row

-- It is the row's.
pub packed_at : (rs : List Row) (i : ℕ) → i < length rs → get_or (packed_rows rs) i 0 ≡ pack_row (get_or rs i absent_row)
unfolding packed_rows pack_row
packed_at rs i there = get_or-map pack_row rs i absent_row

-- The fields of any number are below their room.
pub fields_below : (w : ℕ) → (kind_of w < 128) × (first_of w < 65536) × (whole_of w < 65536) × (parent_of w < 65536)
unfolding kind_of first_of whole_of parent_of
fields_below w = (omega arith, omega arith, omega arith, omega arith)

-- a row whose fields have room is read back from its number
fields_back : (r : Row) → r.kind < kinds → r.first < places → r.whole < places → r.parent < places
    → (kind_of (pack_row r) ≡ r.kind) × (first_of (pack_row r) ≡ r.first) × (whole_of (pack_row r) ≡ r.whole) × (parent_of (pack_row r) ≡ r.parent)
unfolding pack_row kind_of first_of whole_of parent_of
fields_back r small low short above = (omega arith, omega arith, omega arith, omega arith)

-- So each row of a batch is.
module _ {R : ℕ → Bool} {t : Tree} (m : Matches R (content Top) t) (left : ℕ) (wf : WellFormed left 0 t) (short : length (encode t) ≤ longest) where
  pub packed_row : (i : ℕ) → i < length (batch_rows m)
      → (let r = get_or (batch_rows m) i absent_row in
      (kind_of (pack_row r) ≡ r.kind) × (first_of (pack_row r) ≡ r.first) × (whole_of (pack_row r) ≡ r.whole) × (parent_of (pack_row r) ≡ r.parent))
  packed_row i there =
      let r = get_or (batch_rows m) i absent_row in
      let ends = row_ends m left wf i there in
      fields_back r small (omega arith) (omega arith) above
    where
      small : (get_or (batch_rows m) i absent_row).kind < kinds
      small = ltb-true _ _ (all_among (λ (k : ℕ). ltb k kinds) (none ∷ row_kinds) refl _ (row_known m i))

      above : (get_or (batch_rows m) i absent_row).parent < places
      above = go (dec_le 1 i)
        where
          go : Dec (1 ≤ i) → (get_or (batch_rows m) i absent_row).parent < places
          go (yes later) = omega (arith, row_parent m left wf i later there, rows_few m left wf (encode t) refl)
          go (no first) =
              let is : i ≡ 0 = omega arith in
              rw is (omega (arith, ap (λ (r : Row). r.parent) (row_zero m left wf)))

-- A table with a number for each row of an input then has all of them.
pub packed_all : (s old : List ℕ) → length old ≡ length (rows_of_input s)
    → over old 0 (packed_rows (take (length old) (rows_of_input s))) ≡ packed_rows (rows_of_input s)
unfolding over
packed_all s old sized =
    let rs = rows_of_input s in
    let every : take (length old) rs ≡ rs = take_all (length old) rs (omega arith) in
    let end : 0 + length (packed_rows rs) ≡ length old = omega (arith, packed_length rs) in
    ap (λ (l : List Row). over old 0 (packed_rows l)) every
    ∙ ap (λ (n : ℕ). packed_rows rs ++ drop n old) end
    ∙ ap (λ (l : List ℕ). packed_rows rs ++ l) (drop-length old)
    ∙ append-nil (packed_rows rs)
