-- `writer::octets::identifier` meets its contract: five kinds have their own, the others 30. Assumes nothing.
use mathlib.Core.Path.{sym, ap, ◌∙◌}
use borrow.Author.Tests.{ne_eqb}
use Rattle.crmf.specs.meaning.Kinds as kinds
use Rattle.crmf.specs.steps.rows.Assembly.{identifier_of}
use Rattle.crmf.proofs.Laws.{identifier_of_lem}
use Rattle.writer.proofs.octets.identifier.Goals as goal

pub returns-in-14 : goal.returns-in-14
returns-in-14 c = sym (ap identifier_of c.in-14.is ∙ identifier_of_lem kinds.validity)

pub returns-in-19 : goal.returns-in-19
returns-in-19 c = sym (ap identifier_of c.in-19.is ∙ identifier_of_lem kinds.extensions)

pub returns-in-51 : goal.returns-in-51
returns-in-51 c = sym (ap identifier_of c.in-51.is ∙ identifier_of_lem kinds.signature)

pub returns-in-52 : goal.returns-in-52
returns-in-52 c = sym (ap identifier_of c.in-52.is ∙ identifier_of_lem kinds.key_encipherment)

pub returns-in-53 : goal.returns-in-53
returns-in-53 c = sym (ap identifier_of c.in-53.is ∙ identifier_of_lem kinds.key_agreement)

pub returns-in_default : goal.returns-in_default
returns-in_default c =
    let k = c.args.kind in
    let other = c.in_default.in_default-own.rest in
    sym (identifier_of_lem k ∙ rw (ne_eqb k kinds.validity other.0.0.0.0.1, ne_eqb k kinds.extensions other.0.0.0.1, ne_eqb k kinds.signature other.0.0.1, ne_eqb k kinds.key_encipherment other.0.1, ne_eqb k kinds.key_agreement other.1))
