-- `der::element::identifier::is_constructed` meets its contract: the code is the definition. Assumes nothing.
use mathlib.Core.Path.{refl}
use Rattle.der.specs.meaning.Identifier.{constructed}
use Rattle.der.proofs.element.identifier.is_constructed.Goals as goal

pub returns : goal.returns
unfolding constructed
returns c = refl
