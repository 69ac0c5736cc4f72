-- `der::content::utf8::text` meets its contract. The loop's invariant: the check has read the octets before the place, and whatever follows, it
-- answers from there as from the first octet. It holds after eight octets below 80 too, where a character may begin again. Assumes nothing.
use Prim.Native.Nat.{ℕ, ◌+◌}
use mathlib.Core.List.{List, ◌++◌}
use mathlib.Core.Path.{◌≡◌}
use native.Mathlib.Omega.{arith}
use borrow.Author.Rules.{rules}
use lib.ListN.{take}
use Rattle.der.specs.steps.Utf8Classes.{utf8, after_step}
use Rattle.der.proofs.theorems.content.Checked.{checked_begin, begins_exactly, checked_end, turned, whole}
use Rattle.der.proofs.theorems.content.Eights.{eight_characters, eight_exactly}
use Rattle.der.proofs.content.utf8.text.Goals as goal
use Rattle.der.proofs.content.utf8.text.Goals.{After-advance}

pub loop-i-init : goal.loop-i-init
loop-i-init c = rw c.new-wanted.ensures (checked_begin c.requires.1 c.requires.2)

pub step-requires : goal.step-requires
step-requires c = (c.loop-i.invariant.within, begins_exactly c.loop-i.invariant)

pub loop-i-preserved-then-step-eq8 : goal.loop-i-preserved-then-step-eq8
loop-i-preserved-then-step-eq8 c =
    let content = c.args.content.now in
    let stepped = (eight_exactly content c.step.ensures).0 c.if-step-eq8.true in
    let none : c.loop-i.wanted.left ≡ 0 = (begins_exactly c.loop-i.invariant).1 stepped.0 in
    rw none (checked_begin stepped.1.stand (eight_characters content stepped.0 stepped.1))

-- after an octet the check goes on as its step says
on : (c : After-advance) → (rest : List ℕ) → after_step c.advance.result rest ≡ utf8 (take (c.loop-i.i + 1) c.args.content.now ++ rest)
on c =
    turned c.loop-i.invariant c.args.classes.now c.advance.result c.requires.0 c.loop-i-test.true (omega (arith, c.type_inv.content c.loop-i.i)) c.advance.ensures

pub returns-in_default : goal.returns-in_default
returns-in_default c = whole c.args.content.now (c.loop-i.i + 1) (rw c.in_default.is at (on (goal.at.returns-in_default c).After-advance))

pub loop-i-preserved : goal.loop-i-preserved
loop-i-preserved c = record { within = search rules; same = rw c.in-Some.is at (on (goal.at.loop-i-preserved c).After-advance) }

pub returns : goal.returns
returns c = checked_end c.loop-i.invariant c.loop-i-test.false
