-- `der::element::between::between` meets its contract: the end is the input's own if that comes first. Assumes nothing.
use mathlib.Core.Path.{sym}
use native.Mathlib.Omega.{arith}
use Rattle.der.proofs.theorems.lists.Parts.{lent_slice, slice_none}
use Rattle.der.proofs.element.between.between.Goals as goal

pub returns-then-at-stop : goal.returns-then-at-stop
returns-then-at-stop c =
    let a = c.args in
    rw c.min-stop.ensures (lent_slice a.at a.end a.bytes.now (omega (arith, c.min-stop.ensures)))

pub returns-else-at-stop : goal.returns-else-at-stop
returns-else-at-stop c =
    let a = c.args in
    sym (slice_none a.at a.end a.bytes.now (omega (arith, c.min-stop.ensures)))
