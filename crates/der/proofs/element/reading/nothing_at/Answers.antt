-- `der::element::reading::nothing_at` meets its contract: the code is the definition. Assumes nothing.
use mathlib.Core.Path.{refl}
use Rattle.der.specs.steps.Reading.{nothing_at}
use Rattle.der.proofs.element.reading.nothing_at.Goals as goal

pub returns : goal.returns
unfolding nothing_at
returns c = refl
