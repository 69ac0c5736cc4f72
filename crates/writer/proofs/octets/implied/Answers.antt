-- `writer::octets::implied` meets its contract: one kind has a type, the others none. Assumes nothing.
use mathlib.Core.Path.{sym, ap, ◌∙◌}
use Rattle.crmf.specs.steps.rows.Assembly.{implied}
use Rattle.crmf.proofs.Laws.{implied_type, implied_none}
use Rattle.writer.proofs.octets.implied.Goals as goal

pub returns-then-kind-eq-REG_INFO_CERT_REQ : goal.returns-then-kind-eq-REG_INFO_CERT_REQ
returns-then-kind-eq-REG_INFO_CERT_REQ c = sym (ap implied c.if-kind-eq-REG_INFO_CERT_REQ.true ∙ implied_type)

pub returns-else-kind-eq-REG_INFO_CERT_REQ : goal.returns-else-kind-eq-REG_INFO_CERT_REQ
returns-else-kind-eq-REG_INFO_CERT_REQ c = sym (implied_none c.args.kind c.if-kind-eq-REG_INFO_CERT_REQ.false)
