-- `der::explain::by_rule` meets its contract: whether the rule is kept picks the case. Assumes nothing.
use mathlib.Core.Path.{sym, ◌∙◌}
use Rattle.der.specs.meaning.Identifier.{tag_number}
use Rattle.der.proofs.theorems.explain.Steps.{rule_kept, rule_broken}
use Rattle.der.proofs.explain.by_rule.Goals as goal

pub returns-then-kept : goal.returns-then-kept
returns-then-kept c = let a = c.args in sym (rule_kept a.place a.end a.id c.if-kept.true)

pub returns : goal.returns
unfolding tag_number
returns c = let a = c.args in c.new.ensures ∙ sym (rule_broken a.place a.end a.id c.if-kept.false)
