-- `crmf::grammar::value::rule_detail` meets its contract: an empty validity and a list beside action 0 have details of their own, and all else has the
-- same. Assumes nothing.
use mathlib.Core.Path.{sym, ◌∙◌}
use native.Mathlib.Omega.{arith}
use Rattle.crmf.specs.meaning.Value.{is_empty, some_forwards, never, rule_detail}
use Rattle.crmf.specs.steps.grammar.Packed.{judge_code}
use Rattle.crmf.proofs.theorems.lines.JudgeCodes.{same_rule, other_detail}
use Rattle.crmf.proofs.grammar.value.rule_detail.Goals as goal

-- the list beside an action that allows none
pub returns-in-10 : goal.returns-in-10
unfolding judge_code
returns-in-10 c x e = rw (same_rule x never (e ∙ c.in-10.is))

-- a validity, empty or not
pub returns-in-9 : goal.returns-in-9
unfolding judge_code is_empty
returns-in-9 c x e = rw (same_rule x some_forwards (e ∙ c.in-9.is), rule_detail, sym c.is_empty.ensures ∙ c.if-is_empty.true)

pub returns-in_default : goal.returns-in_default
unfolding judge_code is_empty
returns-in_default c x e = rw (same_rule x some_forwards (e ∙ c.in-9.is), rule_detail, sym c.is_empty.ensures ∙ c.if-is_empty.false)

pub returns-in_default-2 : goal.returns-in_default-2
unfolding judge_code
returns-in_default-2 c x e = other_detail x _ (λ q. absurd (omega arith)) (λ q. omega arith)
