-- `crmf::grammar::table::find_line` meets its contract. The loop's invariant: the search from the line looked at finds what the search
-- from `from` finds. Assumes nothing.
use mathlib.Core.Path.{◌≡◌}
use Rattle.crmf.specs.steps.explain.Walk.{find_line}
use Rattle.crmf.proofs.grammar.table.find_line.Given as goal

abbrev pub invariant-loop-k : goal.invariant-loop-k
invariant-loop-k l = find_line l.k l.id ≡ find_line l.from l.id
