-- `writer::join::content` meets its contract: what is read first has its content within the bytes. Assumes nothing.
use native.Mathlib.Nat.{le_refl}
use Prim.Native.Nat.{◌-◌, ◌≤◌}
use native.Mathlib.Omega.{arith}
use mathlib.Core.Path.{ap, ◌∙◌}
use lib.ListN.{length, drop, length-drop}
use lib.Seq.{take_all}
use Rattle.der.specs.declared.element.reading.Element.{Element}
use Rattle.der.proofs.Laws.{read_at_within}
use Rattle.writer.proofs.join.content.Goals as goal
use Rattle.writer.proofs.join.content.Goals.{After-read_at-start}

-- the content begins within the bytes
within : (c : After-read_at-start) → c.read_at-start.result.content ≤ length c.args.bytes.now
within c =
    let s = c.args.bytes.now in
    let b = read_at_within s 0 (length s) (omega arith) (omega arith) c.requires in
    rw c.read_at-start.ensures (omega (arith, b.1, b.2))

pub slice_bounds-result-count : goal.slice_bounds-result-count
slice_bounds-result-count c = within c

pub slice_bounds-result-start : goal.slice_bounds-result-start
slice_bounds-result-start c = within c

pub slice_bounds-result-end : goal.slice_bounds-result-end
slice_bounds-result-end c = le_refl _

pub returns : goal.returns
returns c =
    let s = c.args.bytes.now in
    let from = c.read_at-start.result.content in
    take_all (length s - from) (drop from s) (omega (arith, length-drop from s))
    ∙ ap (λ (x : Element). drop x.content s) c.read_at-start.ensures
