-- `crmf::recognise::common::rdn` meets its contract: one SEQUENCE of a type and a value is an RDN with one attribute. Assumes nothing.
use mathlib.Core.Path.{refl}
use Rattle.crmf.proofs.theorems.recognise.RowlessInsides.{sole_closes, rowless_rdn}
use Rattle.crmf.proofs.recognise.common.rdn.Goals as goal

pub returns : goal.returns
returns c = λ yes.
    let sole = c.in-Some.ensures in
    (rowless_rdn c.args.bytes.now c.requires sole ((c.type_and_value.ensures yes).1 refl), λ id. sole_closes id sole)
