-- `crmf::rows::packed::kind` meets its contract: it computes the definition. Assumes nothing.
use mathlib.Core.Path.{refl}
use Rattle.crmf.specs.steps.rows.Packing.{kind_of}
use Rattle.crmf.proofs.rows.packed.kind.Goals as goal

pub returns : goal.returns
unfolding kind_of
returns c = refl
