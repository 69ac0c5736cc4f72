-- `compare::merge::pass_second` meets its contract: an entry, and the next row. Assumes nothing.
use native.Mathlib.Omega.{arith}
use mathlib.Core.Path.{refl}
use Rattle.compare.specs.meaning.Changes.{only_second, entry}
use Rattle.compare.proofs.merge.pass_second.Goals as goal

pub returns : goal.returns
unfolding entry
returns c =
    let a = c.args in
    (refl, c.after.ensures, omega arith, λ later. c.put.ensures later (only_second a.at.second) refl)
