-- `crmf::grammar::value::selected` meets its contract: each arm's code is one selector's, and no selector has another code. Assumes nothing.
use Prim.Native.Nat.{ℕ}
use mathlib.Core.List.{List}
use mathlib.Core.Option.{get_or}
use mathlib.Core.Path.{◌≡◌, sym, ap, ◌∙◌}
use Rattle.std.specs.Prelude.{Option, Some, unwrap_or}
use Rattle.time.specs.steps.Moments.{as_option}
use Rattle.time.proofs.Laws.{some_told}
use native.Mathlib.Omega.{arith}
use Rattle.crmf.specs.meaning.Value.{action, method, control_type, info_type, type_number, selected}
use Rattle.crmf.specs.steps.grammar.Packed.{judge_code}
use Rattle.crmf.proofs.theorems.lines.JudgeCodes.{same_selector, selector_range}
use Rattle.crmf.proofs.theorems.values.ValueRules.{type_most, way_few, told_or}
use Rattle.crmf.proofs.grammar.value.selected.Goals as goal

pub returns-in-16 : goal.returns-in-16
unfolding selected judge_code
returns-in-16 c = record {
  way = λ s e. rw (same_selector s action (e ∙ c.in-16.is)) c.number.ensures;
  few = rw c.number.ensures (way_few action _);
}

pub returns-in-17 : goal.returns-in-17
unfolding selected judge_code
returns-in-17 c = record {
  way = λ s e. rw (same_selector s method (e ∙ c.in-17.is)) c.number-in-17.ensures;
  few = rw c.number-in-17.ensures (way_few method _);
}

-- what code tells of a type's number, with 0 for an unknown type
numbered : (a most : ℕ) (c : List ℕ) {o : Option ℕ} {r : ℕ} → r ≡ unwrap_or o 0 → o ≡ as_option (type_number a most c) → r ≡ get_or (type_number a most c) 0
numbered a most c is told = is ∙ ap (λ (o : Option ℕ). unwrap_or o 0) told ∙ told_or (type_number a most c) 0

pub returns-in-18 : goal.returns-in-18
unfolding selected judge_code
returns-in-18 c =
    let is = numbered 1 6 c.args.content.now c.unwrap_or.ensures c.type_number.ensures in
    record {
      way = λ s e. rw (same_selector s control_type (e ∙ c.in-18.is)) (ap Some is ∙ sym (some_told _));
      few = omega (arith, is, type_most 1 6 c.args.content.now);
    }

pub returns-in-19 : goal.returns-in-19
unfolding selected judge_code
returns-in-19 c =
    let is = numbered 2 2 c.args.content.now c.unwrap_or-in-19.ensures c.type_number-in-19.ensures in
    record {
      way = λ s e. rw (same_selector s info_type (e ∙ c.in-19.is)) (ap Some is ∙ sym (some_told _));
      few = omega (arith, is, type_most 2 2 c.args.content.now);
    }

pub returns-in_default-clause-way : goal.returns-in_default-clause-way
unfolding judge_code
returns-in_default-clause-way c = λ s e. absurd (omega (arith, selector_range s))
