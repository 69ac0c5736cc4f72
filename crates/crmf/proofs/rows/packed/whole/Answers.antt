-- `crmf::rows::packed::whole` meets its contract: it computes the definition. Assumes nothing.
use mathlib.Core.Path.{refl}
use Rattle.crmf.specs.steps.rows.Packing.{whole_of}
use Rattle.crmf.proofs.rows.packed.whole.Goals as goal

pub returns : goal.returns
unfolding whole_of
returns c = refl
