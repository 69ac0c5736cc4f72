-- `compare::rows::Batch::element` meets its contract: the row's first byte and length are read back. Assumes nothing.
use native.Mathlib.Nat.{add-sub_cancel_left}
use Rattle.std.proofs.Common.{ap₂, ℕ, ◌+◌, ◌∙◌}
use Rattle.std.proofs.Math.Seq.{slice}
use Rattle.der.proofs.Laws.{take_drop}
use Rattle.compare.proofs.rows.Batch.element.Goals as goal

pub returns : goal.returns
returns c =
    let from = c.first-from.result in
    let size = c.whole.result in
    let bytes = c.args.self.bytes.now in
    rw (add-sub_cancel_left from size) (take_drop size from bytes) ∙ ap₂ (λ (f w : ℕ). slice f (f + w) bytes) c.first-from.ensures c.whole.ensures
