-- `time::calendar::leap` meets its contract: its tests are the definition's. Assumes nothing.
use mathlib.Core.Path.{refl}
use Rattle.time.specs.meaning.Calendar.{leap}
use Rattle.time.proofs.calendar.leap.Goals as goal

pub returns : goal.returns
unfolding leap
returns c = refl
