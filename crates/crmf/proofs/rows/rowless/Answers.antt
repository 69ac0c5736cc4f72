-- `crmf::rows::rowless` meets its contract: the numbers are the starts, which are computed. Assumes nothing.
use Rattle.std.proofs.Common.{rules}
use Rattle.crmf.specs.meaning.Notation.{among}
use Rattle.crmf.specs.steps.rows.Fill.{rowless}
use Rattle.crmf.proofs.theorems.lines.WordFields.{computed}
use Rattle.crmf.proofs.rows.rowless.Goals as goal

pub returns-in-0 : goal.returns-in-0
unfolding computed rowless among
returns-in-0 c = search rules

pub returns-in_default : goal.returns-in_default
unfolding computed rowless among
returns-in_default c = search rules
