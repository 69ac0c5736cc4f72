-- `crmf::explain::list`, `element` and `inside` meet their contracts, by one induction on the bytes that are left: an inside has fewer. The
-- list's loop keeps this: the answer from its cursor on is the whole list's. An element's answer is what its line, its inside and its value
-- say. Assumes nothing.
use Prim.Native.Nat.{◌+◌, ◌-◌, ◌*◌, ◌≤◌}
use mathlib.Core.Path.{◌≡◌}
use Rattle.crmf.specs.steps.explain.Inner.{walk_from}
use Rattle.crmf.proofs.explain.+element_inside_list.Given as goal

-- three times the bytes that are left, and one more for a list, two for an inside
abbrev pub decreases-element : goal.decreases-element
decreases-element l = 3 * (l.end - l.cursor.at)

abbrev pub decreases-list : goal.decreases-list
decreases-list l = 3 * (l.end - l.start.at) + 1

abbrev pub decreases-inside : goal.decreases-inside
decreases-inside l = 3 * (l.fit.end - l.fit.content) + 2

-- the answer from the loop's cursor on is the whole list's
abbrev pub invariant-list-loop-cursor : goal.invariant-list-loop-cursor
invariant-list-loop-cursor l =
    (l.initial.cursor.at ≤ l.cursor.at)
    × (l.cursor.at ≤ l.end)
    × (l.cursor.tally.count ≤ 2 * l.cursor.at)
    × (walk_from l.bytes l.cursor l.end l.around ≡ walk_from l.bytes l.initial.cursor l.end l.around)

abbrev pub decreases-list-loop-cursor : goal.decreases-list-loop-cursor
decreases-list-loop-cursor l = l.end - l.cursor.at
