-- `crmf::grammar::marking::mark_of` meets its contract: the marking's code is the line's, and the value decides where it says so. Assumes nothing.
use Prim.Native.Nat.{ℕ}
use mathlib.Core.Path.{◌≡◌, sym, ap, ◌∙◌}
use mathlib.Core.Bool.{true, false}
use native.Mathlib.Omega.{arith}
use lib.ListN.{get_or}
use Rattle.crmf.specs.steps.grammar.Packed.{packed, marking_code, marking_field}
use Rattle.crmf.specs.steps.explain.Walk.{line}
use Rattle.crmf.proofs.theorems.lines.WordFields.{marking_at}
use Rattle.crmf.proofs.theorems.lines.Markings.{mark_whatever, mark_unless_two}
use Rattle.crmf.proofs.grammar.marking.mark_of.Goals as goal
use Rattle.crmf.proofs.grammar.marking.mark_of.Goals.{After-marking_of-code}

-- the code that is read is the line's
coded : (c : After-marking_of-code) (k : ℕ) → c.args.word ≡ get_or packed k 0 → marking_code (line k).marking ≡ c.marking_of-code.result
coded c k e = sym (marking_at k) ∙ ap marking_field (sym e) ∙ sym c.marking_of-code.ensures

pub returns-then-code-lt-UNLESS_TWO : goal.returns-then-code-lt-UNLESS_TWO
returns-then-code-lt-UNLESS_TWO c k e = mark_whatever k _ _ (coded (goal.at.returns-then-code-lt-UNLESS_TWO c).After-marking_of-code k e) c.if-code-lt-UNLESS_TWO.true

pub returns-then-is_two : goal.returns-then-is_two
returns-then-is_two c k e =
    mark_unless_two k _ _ (coded (goal.at.returns-then-is_two c).After-marking_of-code k e) (omega (arith, c.if-code-lt-UNLESS_TWO.false)) true (sym c.is_two.ensures ∙ c.if-is_two.true)

pub returns : goal.returns
returns c k e =
    mark_unless_two k _ _ (coded (goal.at.returns c).After-marking_of-code k e) (omega (arith, c.if-code-lt-UNLESS_TWO.false)) false (sym c.is_two.ensures ∙ c.if-is_two.false)
