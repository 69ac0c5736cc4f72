-- `crmf::recognise::common::key_bits` meets its contract: the bytes are one element, a BIT STRING. Assumes nothing.
use mathlib.Core.Path.{sym, ◌∙◌}
use Rattle.crmf.proofs.theorems.recognise.RowlessInsides.{rowless_key_bits}
use Rattle.crmf.proofs.recognise.common.key_bits.Goals as goal

pub returns : goal.returns
returns c = λ yes. rowless_key_bits c.args.bytes.now c.requires c.in-Some.ensures (sym c.bit_string.ensures ∙ yes)
