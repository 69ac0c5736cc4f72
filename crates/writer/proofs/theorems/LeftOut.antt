-- Document 02, A4, writing: in edition 2 a draft that has a field which edition 2 leaves out is refused with 12, whatever the rest of it is. A batch
-- with the draft's rows would show the field too. Assumes nothing.
use Prim.Native.Nat.{ℕ, ◌+◌, ◌≤◌}
use native.Mathlib.Omega.{arith}
use mathlib.Core.Path.{◌≡◌, sym, subst, ◌∙◌}
use mathlib.Core.List.{List, Memᴰ}
use lib.ListN.{length}
use lib.Seq.{slice}
use Rattle.der.specs.meaning.Refusal.{no_such_batch}
use Rattle.der.specs.meaning.Bounds.{depth, longest}
use Rattle.der.proofs.Laws.{slice_size}
use Rattle.crmf.specs.meaning.Edition.{second_edition}
use Rattle.crmf.specs.meaning.Rows.{Row, numbers, batch_rows}
use Rattle.crmf.specs.meaning.LeftOut.{LeftOut}
use Rattle.crmf.proofs.Laws.{numbers_once, row_content_lem, left_out_too}
use Rattle.editions.proofs.Laws.{none_left_out}
use Rattle.writer.specs.meaning.Draft.{HasRows}
use Rattle.writer.specs.meaning.Writes.{Writes}
use Rattle.writer.proofs.theorems.Demand2.{describes_nothing}

pub left_out_refused : {draft bytes old : List ℕ} {number place count : ℕ} {new : List ℕ} → Writes 2 draft bytes old number place count new
    → (rs : List Row) → numbers rs ≡ draft → (r : Row) (detail : ℕ) → Memᴰ r rs → LeftOut bytes r detail → number ≡ no_such_batch
left_out_refused {draft} {bytes} w rs is r detail at left_out = (describes_nothing second_edition w).1 none
  where
    none : (s : List ℕ) → HasRows 2 draft bytes s → ⊥
    none s h =
        let g = h.batch in
        let own = subst (Memᴰ r) (sym (numbers_once h.rows rs (h.numbered ∙ sym is))) at in
        let short : (q : Row) → Memᴰ q (batch_rows g.batch) → length (slice q.first (q.first + q.whole) s) ≤ longest =
        λ q there. omega (arith, slice_size q.first (q.first + q.whole) s, g.short) in
        let (q, there, shown) =
        left_out_too bytes s h.rows (batch_rows g.batch) h.alike h.right (row_content_lem g.batch depth g.formed s g.encoded) short r detail own left_out in
        none_left_out g q detail there shown
