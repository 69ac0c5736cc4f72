-- `crmf::grammar::table::names` meets its contract: the codes tell the identifiers apart. Assumes nothing.
use mathlib.Core.Path.{sym}
use native.Mathlib.Omega.{arith}
use Rattle.crmf.specs.meaning.Notation.{octet, general_name, anything, nothing, named}
use Rattle.crmf.specs.steps.grammar.Packed.{identifiers_code}
use Rattle.crmf.proofs.grammar.table.names.Goals as goal

pub returns-then-code-eq-GENERAL_NAME : goal.returns-then-code-eq-GENERAL_NAME
unfolding identifiers_code named
returns-then-code-eq-GENERAL_NAME c general_name e = c.general.ensures
returns-then-code-eq-GENERAL_NAME c (octet a) e = absurd (omega arith)
returns-then-code-eq-GENERAL_NAME c anything e = absurd (omega arith)
returns-then-code-eq-GENERAL_NAME c nothing e = absurd (omega arith)

pub returns : goal.returns
unfolding identifiers_code named
returns c general_name e = absurd (c.if-code-eq-GENERAL_NAME.false (sym e))
returns c (octet a) e = absurd (omega arith)
returns c anything e = rw (sym e)
returns c nothing e = rw (sym e)
