-- `der::content::utf8::advance` meets its contract: its test is the definitions' for the class of a tail. Assumes nothing.
use Prim.Native.Nat.{suc, ◌-◌}
use mathlib.Core.Path.{◌≡◌}
use native.Mathlib.Omega.{arith}
use Rattle.der.specs.steps.Utf8Classes.{utf8_from}
use Rattle.der.proofs.theorems.content.Utf8Steps.{go_on, no_tail}
use Rattle.der.proofs.content.utf8.advance.Goals as goal

pub returns-then-wanted-eq0 : goal.returns-then-wanted-eq0
unfolding utf8_from
returns-then-wanted-eq0 c b bs e = rw c.if-wanted-eq0.true (c.lead.ensures b bs e)

pub returns-then-wanted-class : goal.returns-then-wanted-class
returns-then-wanted-class c b bs e =
    let a = c.args.wanted in
    let q : suc (a.left - 1) ≡ a.left = omega arith in
    rw c.new.ensures (cc (go_on b e a.low a.high c.if-wanted-class.true (a.left - 1) bs))

pub returns : goal.returns
returns c b bs e =
    let a = c.args.wanted in
    let q : suc (a.left - 1) ≡ a.left = omega arith in
    cc (no_tail b e a.low a.high c.if-wanted-class.false (a.left - 1) bs)
