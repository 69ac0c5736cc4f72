-- `crmf::recognise::common::name` meets its contract: one SEQUENCE of RDNs is a Name. Assumes nothing.
use Rattle.crmf.proofs.theorems.recognise.RowlessInsides.{rowless_name}
use Rattle.crmf.proofs.recognise.common.name.Goals as goal

pub returns : goal.returns
returns c = λ yes. rowless_name c.args.bytes.now c.requires c.in-Some.ensures (c.rdn_sequence.ensures yes)
