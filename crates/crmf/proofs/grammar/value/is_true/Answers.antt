-- `crmf::grammar::value::is_true` meets its contract: a single octet is compared, and any other length is refused. Assumes nothing.
use borrow.Author.Tests.{eq-eqb, ne_eqb}
use mathlib.Core.List.{[], ◌∷◌}
use mathlib.Core.Path.{sym, ◌∙◌}
use native.Mathlib.Omega.{arith}
use Rattle.crmf.specs.meaning.Value.{is_true_octet}
use Rattle.crmf.proofs.theorems.values.ValueRules.{other_length, same_one}
use Rattle.crmf.proofs.grammar.value.is_true.Goals as goal

pub returns-in-255 : goal.returns-in-255
unfolding is_true_octet
returns-in-255 c = sym (same_one _ 0xFF (omega arith) ∙ eq-eqb _ _ (omega arith))

pub returns-in_default : goal.returns-in_default
unfolding is_true_octet
returns-in_default c = sym (other_length _ (0xFF ∷ []) (λ e. omega arith))

pub returns-in_default-2 : goal.returns-in_default-2
unfolding is_true_octet
returns-in_default-2 c = sym (same_one _ 0xFF (omega arith) ∙ ne_eqb _ _ (λ e. omega arith))

pub returns-in_default-3 : goal.returns-in_default-3
unfolding is_true_octet
returns-in_default-3 c = sym (other_length _ (0xFF ∷ []) (λ e. omega arith))
