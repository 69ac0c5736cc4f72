-- `der::closing::descends` meets its contract. The loop's invariant: the octets that are left decide as the whole strings do. Assumes nothing.
use Rattle.std.proofs.Common.{rules}
use Rattle.std.proofs.lemmas.Slice.Zip.{either_empty_from_Zip}
use mathlib.Core.Logic.{⊎_elim}
use mathlib.Core.Path.{sym, ap, ap₂, ◌∙◌}
use native.Mathlib.Omega.{arith}
use lib.ListN.{length}
use Rattle.der.specs.steps.Order.{descends}
use Rattle.der.proofs.theorems.closing.ClosingWays.{same_octet, other_octet, descends_over}
use Rattle.der.proofs.closing.descends.Goals as goal

pub loop-a-init : goal.loop-a-init
loop-a-init c = search rules

pub returns-then-a-b : goal.returns-then-a-b
returns-then-a-b c =
    let (first, second) = (c.in-Some.ensures {u = tt}).steps in
    sym (other_octet _ _ c.if-a-b.true) ∙ sym (ap₂ descends first second) ∙ c.loop-a.invariant.2

pub loop-a-preserved : goal.loop-a-preserved
loop-a-preserved c =
    let (first, second) = (c.in-Some.ensures {u = tt}).steps in
    ((tt, tt), tt, sym (same_octet _ _ c.if-a-b.false) ∙ sym (ap₂ descends first second) ∙ c.loop-a.invariant.2)

pub returns : goal.returns
returns c =
    let none = either_empty_from_Zip c.loop-a.a-iterator c.next.new.self c.next.result c.in-None.is c.next.ensures.steps in
    sym (descends_over _ _ (λ some more. ⊎_elim (λ e. omega (arith, ap length e)) (λ e. omega (arith, ap length e)) none)) ∙ c.loop-a.invariant.2
