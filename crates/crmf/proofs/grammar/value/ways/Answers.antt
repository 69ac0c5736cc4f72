-- `crmf::grammar::value::ways` meets its contract: each arm's code is one selector's, and no selector has another code. Assumes nothing.
use mathlib.Core.Path.{◌∙◌}
use native.Mathlib.Omega.{arith}
use lib.Dec.{lit≤}
use Rattle.crmf.specs.meaning.Value.{action, method, control_type, info_type}
use Rattle.crmf.specs.steps.grammar.Packed.{judge_code}
use Rattle.crmf.proofs.theorems.lines.JudgeCodes.{same_selector, selector_range}
use Rattle.crmf.proofs.grammar.value.ways.Goals as goal

pub returns-in-16 : goal.returns-in-16
unfolding judge_code
returns-in-16 c = (λ s e. rw (same_selector s action (e ∙ c.in-16.is)), lit≤ tt)

pub returns-in-17 : goal.returns-in-17
unfolding judge_code
returns-in-17 c = (λ s e. rw (same_selector s method (e ∙ c.in-17.is)), lit≤ tt)

pub returns-in-18 : goal.returns-in-18
unfolding judge_code
returns-in-18 c = (λ s e. rw (same_selector s control_type (e ∙ c.in-18.is)), lit≤ tt)

pub returns-in-19 : goal.returns-in-19
unfolding judge_code
returns-in-19 c = (λ s e. rw (same_selector s info_type (e ∙ c.in-19.is)), lit≤ tt)

pub returns-in_default : goal.returns-in_default
unfolding judge_code
returns-in_default c = (λ s e. absurd (omega (arith, selector_range s)), lit≤ tt)
