-- `crmf::grammar::table::action_of` meets its contract: the word's field is the line's. Assumes nothing.
use mathlib.Core.Path.{ap, ◌∙◌}
use Rattle.crmf.specs.steps.grammar.Packed.{action_field}
use Rattle.crmf.proofs.theorems.lines.WordFields.{action_at}
use Rattle.crmf.proofs.grammar.table.action_of.Goals as goal

pub returns : goal.returns
returns c k e = ap action_field e ∙ action_at k
