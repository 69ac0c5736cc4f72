-- `crmf::recognise::count_by` meets its contract: it counts over the whole input, from the grammar's first line on. Assumes nothing.
use mathlib.Core.Path.{sym}
use Rattle.crmf.specs.meaning.Notation.{order}
use Rattle.crmf.specs.steps.grammar.Lines.{start, starts_from}
use Rattle.crmf.specs.steps.recognise.Count.{recognised}
use Rattle.crmf.proofs.theorems.recognise.CountWays.{too_long}
use Rattle.crmf.proofs.recognise.count_by.Goals as goal

pub returns-then-bytes-gt-LONGEST : goal.returns-then-bytes-gt-LONGEST
returns-then-bytes-gt-LONGEST c = sym (too_long c.args.edition c.args.bytes.now c.if-bytes-gt-LONGEST.true)

pub returns : goal.returns
unfolding recognised start starts_from order
returns c = c.list.ensures.same 0
