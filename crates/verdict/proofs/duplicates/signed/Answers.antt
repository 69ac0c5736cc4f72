-- `verdict::duplicates::signed` meets its contract: the loop builds the number of the octets passed, and it always fits. Assumes nothing.
use Rattle.std.proofs.Common.{true, false, ◌+◌, ℤ, pos, ◌+ℤ◌, ◌*ℤ◌, get_or, ap, ap₂, subst, sym, ◌∙◌, FitsSigned, w64, to_z, of_z}
use mir.Facts.{to_z-of_z}
use borrow.Author.Tests.{le-leb, lt-leb}
use Rattle.der.proofs.Laws.{octets_each}
use Rattle.verdict.proofs.theorems.duplicates.Magnitudes.{number_begins, before_shifts, before_more, before_fits, number_all}
use Rattle.verdict.proofs.duplicates.signed.Goals as goal
use Rattle.verdict.proofs.duplicates.signed.Goals.{In-loop-octet, then-content-ge128, else-content-ge128}

pub loop-octet-init : goal.loop-octet-init
loop-octet-init c =
    let content = c.args.content.now in
    elim c.if-content-ge128.branch [
      | then-content-ge128 w ↦ w.number-is ∙ number_begins content true (le-leb _ _ w.if-content-ge128.true)
      | else-content-ge128 w ↦ w.number-is ∙ number_begins content false (lt-leb _ _ w.if-content-ge128.false)
    ]

-- the number so far can be shifted
shifts : (c : In-loop-octet) → FitsSigned w64 (to_z w64 c.loop-octet.number-bits *ℤ pos 256)
shifts c =
    let content = c.args.content.now in
    let l = c.loop-octet in
    subst (λ (n : ℤ). FitsSigned w64 (n *ℤ pos 256)) (sym l.invariant)
    (before_shifts content l.octet-index (octets_each content (λ i. (c.type_inv.content i).fits)) c.requires.1 c.loop-octet-test.true)

pub overflow_mul-number : goal.overflow_mul-number
overflow_mul-number c = shifts c

pub loop-octet-preserved : goal.loop-octet-preserved
loop-octet-preserved c =
    let l = (goal.at.loop-octet-preserved c).In-loop-octet in
    let content = l.args.content.now in
    let i = l.loop-octet.octet-index in
    let octets = octets_each content (λ j. (l.type_inv.content j).fits) in
    let octet = to_z-of_z {w = w64} (record { sfits = c.from.type_inv }) ∙ c.from.ensures in
    let sum =
    ap₂ ◌+ℤ◌ (to_z-of_z {w = w64} (shifts l)) octet
    ∙ ap (λ (n : ℤ). n *ℤ pos 256 +ℤ pos (get_or content i 0)) l.loop-octet.invariant
    ∙ before_more content i octets l.requires.1 l.loop-octet-test.true in
    ap (λ (z : ℤ). to_z w64 (of_z w64 z)) sum ∙ to_z-of_z {w = w64} (before_fits content (i + 1) octets l.requires.1)

pub returns : goal.returns
returns c =
    let l = c.loop-octet in
    l.invariant ∙ number_all c.args.content.now l.octet-index c.loop-octet-test.false
