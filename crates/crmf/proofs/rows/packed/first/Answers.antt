-- `crmf::rows::packed::first` meets its contract: it computes the definition. Assumes nothing.
use mathlib.Core.Path.{refl}
use Rattle.crmf.specs.steps.rows.Packing.{first_of}
use Rattle.crmf.proofs.rows.packed.first.Goals as goal

pub returns : goal.returns
unfolding first_of
returns c = refl
