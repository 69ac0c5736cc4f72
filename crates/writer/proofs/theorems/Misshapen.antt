-- 12 also if "a draft's numbers" aren't "a multiple of five", are "none, or a leaf leaves the slice": no batch has the rows of such a draft.
-- Assumes nothing.
use Prim.Native.Nat.{ℕ, zero, suc, ◌+◌, ◌*◌, ◌≤◌, ◌<◌}
use native.Mathlib.Omega.{arith}
use mathlib.Core.Path.{◌≡◌, sym, ap, subst, ◌∙◌}
use mathlib.Core.Bool.{Bool, true, false, ◌||◌, and-eq-true_iff}
use mathlib.Core.List.{List, [], ◌∷◌}
use lib.Dec.{leb}
use lib.ListN.{length, get_or}
use borrow.Author.Tests.{leb-true}
use Rattle.der.specs.meaning.Refusal.{no_such_batch}
use Rattle.der.specs.meaning.Bounds.{depth}
use Rattle.crmf.specs.meaning.Edition.{Edition}
use Rattle.crmf.specs.meaning.Rows.{Row, width, container, numbers, batch_rows}
use Rattle.crmf.proofs.Laws.{absent_row, rows_some, numbers_length, pieces_length}
use Rattle.writer.specs.meaning.Draft.{inside, HasRows}
use Rattle.writer.specs.meaning.Writes.{Writes}
use Rattle.crmf.proofs.Laws.{numbers_once}
use Rattle.writer.proofs.theorems.Demand2.{describes_nothing}

-- A draft has no batch's shape, for one of the three reasons.
pub data Misshapen (draft bytes : List ℕ) : Type 0 where
  no_multiple : ((n : ℕ) → length draft ≡ width * n → ⊥) → Misshapen draft bytes
  none : length draft ≡ 0 → Misshapen draft bytes
  leaves : (rs : List Row) → numbers rs ≡ draft → (i : ℕ) → i < length rs → container (get_or rs i absent_row).kind ≡ false
      → length bytes < (get_or rs i absent_row).first + (get_or rs i absent_row).whole → Misshapen draft bytes

-- a leaf that is inside ends within the slice
inside_each : (bytes : List ℕ) (rs : List Row) → inside bytes rs ≡ true → (i : ℕ) → i < length rs → container (get_or rs i absent_row).kind ≡ false
    → (get_or rs i absent_row).first + (get_or rs i absent_row).whole ≤ length bytes
unfolding inside
inside_each bytes [] is i there leaf = absurd (omega arith)
inside_each bytes (r ∷ rs) is zero there leaf =
    let own = ((and-eq-true_iff (container r.kind || leb (r.first + r.whole) (length bytes)) (inside bytes rs)).0 is).0 in
    leb-true (r.first + r.whole) (length bytes) (subst (λ (b : Bool). (b || leb (r.first + r.whole) (length bytes)) ≡ true) leaf own)
inside_each bytes (r ∷ rs) is (suc i) there leaf =
    inside_each bytes rs ((and-eq-true_iff (container r.kind || leb (r.first + r.whole) (length bytes)) (inside bytes rs)).0 is).1 i (omega arith) leaf

module _ {e : ℕ} {draft bytes s : List ℕ} (h : HasRows e draft bytes s) where
  -- the draft has the numbers of each row
  whole_rows : length draft ≡ width * length h.rows
  whole_rows = ap length (sym h.numbered) ∙ numbers_length h.rows

  -- it has as many rows as the batch, and that is some
  some_rows : 0 < length h.rows
  some_rows =
      let g = h.batch in
      omega (arith, rows_some g.batch depth g.formed, pieces_length bytes h.rows, ap length h.alike, pieces_length s (batch_rows g.batch))

-- no batch has the rows of such a draft
misshapen_none : {e : ℕ} {draft bytes : List ℕ} → Misshapen draft bytes → (s : List ℕ) → HasRows e draft bytes s → ⊥
misshapen_none (no_multiple not) s h = not (length h.rows) (whole_rows h)
misshapen_none (none empty) s h = omega (arith, whole_rows h, some_rows h)
misshapen_none {bytes = bytes} (leaves rs is i there leaf past) s h =
    let same = numbers_once h.rows rs (h.numbered ∙ sym is) in
    omega (arith, inside_each bytes rs (ap (inside bytes) (sym same) ∙ h.leaves) i there leaf)

-- So it is refused with 12.
pub misshapen_refused : {e : ℕ} {draft bytes old : List ℕ} {number place count : ℕ} {new : List ℕ} → Edition e → Writes e draft bytes old number place count new
    → Misshapen draft bytes → number ≡ no_such_batch
misshapen_refused ed w m = (describes_nothing ed w).1 (misshapen_none m)
