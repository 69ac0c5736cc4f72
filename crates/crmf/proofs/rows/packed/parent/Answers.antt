-- `crmf::rows::packed::parent` meets its contract: it computes the definition. Assumes nothing.
use mathlib.Core.Path.{refl}
use Rattle.crmf.specs.steps.rows.Packing.{parent_of}
use Rattle.crmf.proofs.rows.packed.parent.Goals as goal

pub returns : goal.returns
unfolding parent_of
returns c = refl
