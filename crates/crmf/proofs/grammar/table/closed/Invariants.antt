-- `crmf::grammar::table::closed` meets its contract. The loop's invariant: a container may end at the line looked at exactly if it may
-- end at `from`. Assumes nothing.
use mathlib.Core.Path.{◌≡◌}
use Rattle.crmf.specs.steps.explain.Walk.{closed}
use Rattle.crmf.proofs.grammar.table.closed.Given as goal

abbrev pub invariant-loop-k : goal.invariant-loop-k
invariant-loop-k l = closed l.k ≡ closed l.from
