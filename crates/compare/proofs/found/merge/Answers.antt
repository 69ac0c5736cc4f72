-- `compare::found::merge` meets its contract: the walk from the batches on. Assumes nothing.
use Rattle.compare.proofs.theorems.Gathering.{merged_counted}
use Rattle.compare.proofs.found.merge.Goals as goal

pub returns : goal.returns
returns c = let a = c.args in merged_counted a.first.tabled a.second.tabled c.children.ensures
