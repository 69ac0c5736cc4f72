-- `crmf::explain::tally::with_form` meets its contract: each way out is what the definition notes. Assumes nothing.
use mathlib.Core.Path.{refl, sym}
use Prim.Native.Nat.{◌/◌}
use lib.Dec.{eqb}
use native.Mathlib.Omega.{arith}
use Rattle.crmf.specs.steps.grammar.Codes as codes
use Rattle.crmf.specs.steps.explain.Tally.{tally_of}
use Rattle.crmf.proofs.theorems.explain.Meeting.{own_number, tested, no_form, met_one, met_two, met_none}
use Rattle.crmf.proofs.explain.tally.with_form.Goals as goal

pub invariant_of-result : goal.invariant_of-result
invariant_of-result c = let (k, (o, coded)) = c.requires in record { some = own_number k c.args.mark 1 o _ coded (omega arith) c.if-mark-is_none.true }

pub returns-then-mark-is_none : goal.returns-then-mark-is_none
returns-then-mark-is_none c =
    let a = c.args in
    let one = tested (eqb (a.mark / codes.edition) 1) _ _ _ (no_form a.tally.one _ c.is_none.ensures) c.if-mark-is_none.true in
    (λ k o coded. sym (met_one k a.mark a.place o (tally_of a.tally) coded one), refl)

pub invariant_of-result-then-mark-is_none-2 : goal.invariant_of-result-then-mark-is_none-2
invariant_of-result-then-mark-is_none-2 c = let (k, (o, coded)) = c.requires in record { some = own_number k c.args.mark 2 o _ coded (omega arith) c.if-mark-is_none-2.true }

pub returns-then-mark-is_none-2 : goal.returns-then-mark-is_none-2
returns-then-mark-is_none-2 c =
    let a = c.args in
    let one = tested (eqb (a.mark / codes.edition) 1) _ _ _ (no_form a.tally.one _ c.is_none.ensures) c.if-mark-is_none.false in
    let two = tested (eqb (a.mark / codes.edition) 2) _ _ _ (no_form a.tally.two _ c.is_none-2.ensures) c.if-mark-is_none-2.true in
    (λ k o coded. sym (met_two k a.mark a.place o (tally_of a.tally) coded one two), refl)

pub returns : goal.returns
returns c =
    let a = c.args in
    let one = tested (eqb (a.mark / codes.edition) 1) _ _ _ (no_form a.tally.one _ c.is_none.ensures) c.if-mark-is_none.false in
    let two = tested (eqb (a.mark / codes.edition) 2) _ _ _ (no_form a.tally.two _ c.is_none-2.ensures) c.if-mark-is_none-2.false in
    (λ k o coded. sym (met_none k a.mark a.place o (tally_of a.tally) coded one two), refl)
