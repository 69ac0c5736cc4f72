-- `crmf::recognise::common::subject_public_key_info` meets its contract: an AlgorithmIdentifier, and a BIT STRING after it. Assumes nothing.
use mathlib.Core.Path.{refl}
use Rattle.crmf.proofs.theorems.recognise.RowlessInsides.{rowless_key}
use Rattle.crmf.proofs.recognise.common.subject_public_key_info.Goals as goal

pub returns : goal.returns
returns c = λ yes.
    rowless_key c.args.bytes.now c.requires c.in-Some.ensures ((c.type_and_value.ensures c.if-not-type_and_value.false).0 refl) (c.key_bits.ensures yes)
