-- `crmf::grammar::value::is_up_to` meets its contract: a single octet is tested as the definition does, and any other length is refused.
-- Assumes nothing.
use native.Mathlib.Omega.{arith}
use mathlib.Core.Path.{sym}
use Rattle.crmf.proofs.theorems.values.ValueRules.{up_to, above, not_one}
use Rattle.crmf.proofs.grammar.value.is_up_to.Goals as goal

pub returns-in-len1 : goal.returns-in-len1
returns-in-len1 c = sym (up_to _ _ (omega arith) (omega arith))

pub returns-in_default : goal.returns-in_default
returns-in_default c = sym (not_one _ _ (λ e. omega arith))

pub returns-in_default-2 : goal.returns-in_default-2
returns-in_default-2 c = sym (above _ _ (omega arith))

pub returns-in_default-3 : goal.returns-in_default-3
returns-in_default-3 c = sym (not_one _ _ (λ e. omega arith))
