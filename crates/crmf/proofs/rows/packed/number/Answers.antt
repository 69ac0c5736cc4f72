-- `crmf::rows::packed::number` meets its contract: each field is below its room, so nothing overflows. Assumes nothing.
use mathlib.Core.Path.{refl}
use Rattle.crmf.specs.steps.rows.Packing.{pack_row}
use Rattle.crmf.proofs.rows.packed.number.Goals as goal

pub returns : goal.returns
unfolding pack_row
returns c = refl
