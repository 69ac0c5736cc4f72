-- The code of an element's mark, from the code of its line's marking: the codes of marks have room below that of "unless two". Assumes nothing.
use Prim.Native.Nat.{ℕ, ◌-◌, ◌≤◌, ◌<◌}
use native.Mathlib.Omega.{arith}
use mathlib.Core.Path.{◌≡◌, refl, sym, ap, ◌∙◌}
use mathlib.Core.Bool.{Bool, true, false}
use mathlib.Core.List.{List}
use borrow.Author.Tests.{ltb-true}
use lib.Dec.{ltb}
use Rattle.crmf.specs.meaning.Value.{is_two}
use Rattle.crmf.specs.meaning.Notation.{both, Marking, whatever, unless_two, mark_of}
use Rattle.crmf.specs.steps.grammar.Codes as codes
use Rattle.crmf.specs.steps.grammar.Packed.{mark_code, marking_code}
use Rattle.crmf.specs.steps.explain.Walk.{line}
use Rattle.crmf.proofs.theorems.lines.WordFields.{computed, given_mark, at_line}

-- the code of the mark that a line's marking gives is below that of "unless two"
low_at : (k : ℕ) → mark_code (given_mark (line k).marking) < codes.unless_two
unfolding computed
low_at k = ltb-true _ _ (at_line (λ x. ltb (mark_code (given_mark x.marking)) codes.unless_two) refl k)

module _ (k code : ℕ) (c : List ℕ) (coded : marking_code (line k).marking ≡ code) where
  -- a code below it is the mark's
  pub mark_whatever : code < codes.unless_two → code ≡ mark_code (mark_of (line k).marking c)
  unfolding marking_code
  mark_whatever low = go (line k).marking coded
    where
      go : (m : Marking) → marking_code m ≡ code → code ≡ mark_code (mark_of m c)
      go (whatever m) is = sym is
      go (unless_two m) is = absurd (omega (arith, is, low))

  -- otherwise there is a mark unless the value is 2
  pub mark_unless_two : codes.unless_two ≤ code → (b : Bool) → is_two c ≡ b
      → (elim b [ true ↦ 0 | false ↦ code - codes.unless_two ]) ≡ mark_code (mark_of (line k).marking c)
  unfolding marking_code mark_code
  mark_unless_two high b two = go (line k).marking coded (low_at k) b two
    where
      go : (m : Marking) → marking_code m ≡ code → mark_code (given_mark m) < codes.unless_two → (b : Bool) → is_two c ≡ b
          → (elim b [ true ↦ 0 | false ↦ code - codes.unless_two ]) ≡ mark_code (mark_of m c)
      go (whatever m) is low b two = absurd (omega (arith, is, high, low))
      go (unless_two m) is low true two = sym (ap (λ (t : Bool). mark_code (elim t [ true ↦ both | false ↦ m ])) two)
      go (unless_two m) is low false two =
          let rest : code - codes.unless_two ≡ mark_code m = omega (arith, is) in
          rest ∙ sym (ap (λ (t : Bool). mark_code (elim t [ true ↦ both | false ↦ m ])) two)
