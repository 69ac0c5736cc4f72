-- `time::validity::time_moment` meets its contract: the identifier says which time it is. Assumes nothing.
use mathlib.Core.Path.{◌∙◌}
use native.Mathlib.Omega.{arith}
use borrow.Author.Tests.{ne_eqb}
use Rattle.time.specs.meaning.Time.{time_moment}
use Rattle.time.specs.steps.Moments.{as_option}
use Rattle.time.proofs.validity.time_moment.Goals as goal

pub returns-in-23 : goal.returns-in-23
unfolding time_moment
returns-in-23 c = c.utc_time.ensures ∙ rw c.in-23.is

pub returns-in-24 : goal.returns-in-24
unfolding time_moment
returns-in-24 c = c.generalized_time.ensures ∙ rw c.in-24.is

pub returns-in_default : goal.returns-in_default
unfolding time_moment as_option
returns-in_default c = rw (time_moment, ne_eqb c.args.identifier 0x17 (omega arith), ne_eqb c.args.identifier 0x18 (omega arith))
