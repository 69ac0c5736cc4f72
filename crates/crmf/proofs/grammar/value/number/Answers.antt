-- `crmf::grammar::value::number` meets its contract: its test is the definition's. Assumes nothing.
use native.Mathlib.Omega.{arith}
use mathlib.Core.Path.{sym, ap, ◌∙◌}
use Rattle.std.specs.Prelude.{Some}
use Rattle.time.proofs.Laws.{some_told, none_told}
use Rattle.crmf.specs.meaning.Value.{number}
use Rattle.crmf.proofs.theorems.values.ValueRules.{up_to, above, not_one}
use Rattle.crmf.proofs.grammar.value.number.Goals as goal

pub returns-in-len1 : goal.returns-in-len1
unfolding number
returns-in-len1 c = rw (number, up_to c.args.most c.args.content.now (omega arith) (omega arith)) (ap Some c.from.ensures ∙ sym (some_told _))

pub returns-in_default : goal.returns-in_default
unfolding number
returns-in_default c = rw (number, not_one c.args.most c.args.content.now (λ e. omega arith)) (sym none_told)

pub returns-in_default-2 : goal.returns-in_default-2
unfolding number
returns-in_default-2 c = rw (number, above c.args.most c.args.content.now (omega arith)) (sym none_told)

pub returns-in_default-3 : goal.returns-in_default-3
unfolding number
returns-in_default-3 c = rw (number, not_one c.args.most c.args.content.now (λ e. omega arith)) (sym none_told)
