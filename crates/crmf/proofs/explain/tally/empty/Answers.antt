-- `crmf::explain::tally::empty` meets its contract: the tally is the definition's, written out. Assumes nothing.
use mathlib.Core.Path.{refl}
use Rattle.crmf.specs.steps.explain.Walk.{empty_tally}
use Rattle.crmf.proofs.explain.tally.empty.Goals as goal

pub returns : goal.returns
unfolding empty_tally
returns c = refl
