-- `crmf::grammar::value::is_two` meets its contract: a single octet is compared, and any other length is refused. Assumes nothing.
use borrow.Author.Tests.{eq-eqb, ne_eqb}
use mathlib.Core.List.{[], ◌∷◌}
use mathlib.Core.Path.{sym, ◌∙◌}
use native.Mathlib.Omega.{arith}
use Rattle.crmf.specs.meaning.Value.{is_two}
use Rattle.crmf.proofs.theorems.values.ValueRules.{other_length, same_one}
use Rattle.crmf.proofs.grammar.value.is_two.Goals as goal

pub returns-in-2 : goal.returns-in-2
unfolding is_two
returns-in-2 c = sym (same_one _ 0x02 (omega arith) ∙ eq-eqb _ _ (omega arith))

pub returns-in_default : goal.returns-in_default
unfolding is_two
returns-in_default c = sym (other_length _ (0x02 ∷ []) (λ e. omega arith))

pub returns-in_default-2 : goal.returns-in_default-2
unfolding is_two
returns-in_default-2 c = sym (same_one _ 0x02 (omega arith) ∙ ne_eqb _ _ (λ e. omega arith))

pub returns-in_default-3 : goal.returns-in_default-3
unfolding is_two
returns-in_default-3 c = sym (other_length _ (0x02 ∷ []) (λ e. omega arith))
