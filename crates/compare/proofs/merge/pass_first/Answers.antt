-- `compare::merge::pass_first` meets its contract: an entry, and the next row. Assumes nothing.
use native.Mathlib.Omega.{arith}
use mathlib.Core.Path.{refl}
use Rattle.compare.specs.meaning.Changes.{only_first, entry}
use Rattle.compare.proofs.merge.pass_first.Goals as goal

pub returns : goal.returns
unfolding entry
returns c =
    let a = c.args in
    (c.after.ensures, refl, omega arith, λ later. c.put.ensures later (only_first a.at.first) refl)
