-- `compare::found::find` meets its contract: the tables hold the rows. Assumes nothing.
use Rattle.compare.proofs.theorems.Batches.{tabled}
use Rattle.compare.specs.steps.Finding.{Wanted}
use mathlib.Core.Path.{subst}
use Rattle.std.specs.Prelude.{Option, ℕ}
use Rattle.compare.proofs.found.find.Goals as goal

pub invariant_of-first : goal.invariant_of-first
invariant_of-first c = let a = c.args in record { tabled = tabled a.first.now a.one.now _ c.requires.0 c.pack.ensures }

pub invariant_of-second : goal.invariant_of-second
invariant_of-second c = let a = c.args in record { tabled = tabled a.second.now a.two.now _ c.requires.1 c.pack-2.ensures }

pub invariant_of-first-in-Some : goal.invariant_of-first-in-Some
invariant_of-first-in-Some c = let a = c.args in record { tabled = tabled a.first.now a.one.now _ c.requires.0 c.pack.ensures }

pub invariant_of-second-in-Some : goal.invariant_of-second-in-Some
invariant_of-second-in-Some c = let a = c.args in record { tabled = tabled a.second.now a.two.now _ c.requires.1 c.pack-2.ensures }

pub find_one-requires : goal.find_one-requires
find_one-requires c = subst (λ (w : Option ℕ). Wanted w c.args.list.now) c.in-Some.is c.requires.2
