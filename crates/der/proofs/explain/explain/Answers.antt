-- `der::explain::explain` meets its contract: the part that is lent is the octets from one place to the other. Assumes nothing.
use mathlib.Core.Path.{sym, ap, ◌∙◌}
use native.Mathlib.Omega.{arith}
use Rattle.der.specs.meaning.Bounds.{depth}
use Rattle.der.specs.steps.Explain.{element_of}
use Rattle.der.proofs.theorems.lists.Parts.{slice_size, octets_each}
use Rattle.der.proofs.theorems.explain.Explained.{walk_explained}
use Rattle.der.proofs.theorems.explain.Steps.{walk_long, walk_short}
use Rattle.der.proofs.explain.explain.Goals as goal
use Rattle.der.proofs.explain.explain.Goals.{Start}

pub returns-then-bytes-gt-LONGEST : goal.returns-then-bytes-gt-LONGEST
returns-then-bytes-gt-LONGEST c =
    let start = (goal.at.returns-then-bytes-gt-LONGEST c).Start in
    let a = start.args in
    walk_explained a.bytes.now (octets_each a.bytes.now (λ i. (c.type_inv.bytes i).fits)) a.at a.end _
    (c.new.ensures ∙ sym (walk_long a.bytes.now a.at a.end c.if-bytes-gt-LONGEST.true))

pub element-requires : goal.element-requires
element-requires c =
    let a = c.args in
    let size = slice_size a.at a.end a.bytes.now in
    rw c.between.ensures
    (record { short = omega arith; placed = omega (arith, c.ranges.at, c.if-bytes-gt-LONGEST.false) })

pub returns : goal.returns
returns c =
    let a = c.args in
    walk_explained a.bytes.now (octets_each a.bytes.now (λ i. (c.type_inv.bytes i).fits)) a.at a.end _
    (c.element.ensures
    ∙ ap (element_of depth a.at) c.between.ensures
    ∙ sym (walk_short a.bytes.now a.at a.end c.if-bytes-gt-LONGEST.false))
