-- `der::closing::closes` meets its contract: its test is the definition's. Assumes nothing.
use mathlib.Core.Bool.{not}
use mathlib.Core.Path.{sym, ap, ◌∙◌}
use borrow.Author.Tests.{eq-eqb, ne_eqb}
use Rattle.der.proofs.theorems.closing.Closing.{closes_free, closes_set}
use Rattle.der.proofs.closing.closes.Goals as goal

pub returns-then-id-ne-SET : goal.returns-then-id-ne-SET
returns-then-id-ne-SET c =
    let a = c.args in
    let other = ne_eqb a.id 0x31 c.if-id-ne-SET.true in
    ap not other ∙ sym (closes_free a.id a.content.now other)

pub returns-else-id-ne-SET : goal.returns-else-id-ne-SET
returns-else-id-ne-SET c =
    let a = c.args in
    c.ascends.ensures ∙ sym (closes_set a.id a.content.now (eq-eqb a.id 0x31 c.if-id-ne-SET.false))
