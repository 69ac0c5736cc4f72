-- `der::content::utf8::step` meets its contract: each way out has a test that the definition asks for. Assumes nothing.
use native.Mathlib.Nat.{le_refl}
use mathlib.Core.Bool.{true, false≢true}
use mathlib.Core.Logic.{◌↔◌}
use mathlib.Core.Path.{◌≡◌, refl, sym, ◌∙◌}
use native.Mathlib.Omega.{arith}
use borrow.Author.Rules.{part_to_end}
use Rattle.der.specs.meaning.Eights.{NextEightAscii, eight, one}
use Rattle.der.proofs.theorems.content.Eights.{next_eight}
use Rattle.der.proofs.content.utf8.step.Goals as goal
use Rattle.der.proofs.content.utf8.step.Goals.{After-eight, Else-left-ne0}

pub returns-then-left-ne0 : goal.returns-then-left-ne0
returns-then-left-ne0 c = one (λ u n. c.if-left-ne0.true (c.requires.1.1 u)) refl

pub returns-then-content-lt8 : goal.returns-then-content-lt8
returns-then-content-lt8 c = one (λ u n. absurd (omega (arith, n.stand))) refl

pub returns-then-content-i : goal.returns-then-content-i
returns-then-content-i c = one (λ u n. absurd (omega (arith, n.stand))) refl

pub slice_bounds-eight-end : goal.slice_bounds-eight-end
slice_bounds-eight-end c = le_refl _

-- the test is of the next eight
tested : (c : After-eight) →
    let a = c.args in
    (c.eight.result ≡ true) ↔ NextEightAscii a.content.now a.i
tested c =
    let a = c.args in
    next_eight a.content.now a.i (omega arith) (rw (part_to_end a.content.now a.i) at c.eight.ensures)

pub returns-then-eight : goal.returns-then-eight
returns-then-eight c =
    let first = (goal.at.returns-then-eight c).Else-left-ne0 in
    eight (first.requires.1.0 first.if-left-ne0.false) ((tested (goal.at.returns-then-eight c).After-eight).0 c.if-eight.true) refl

pub returns : goal.returns
returns c = one (λ u n. false≢true (sym c.if-eight.false ∙ (tested (goal.at.returns c).After-eight).1 n)) refl
