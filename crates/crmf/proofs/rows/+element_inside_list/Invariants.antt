-- `crmf::rows::list`, `element` and `inside` meet their contracts, by one induction on the bytes that are left: an inside has fewer. With the rows
-- from the list's spot on always all from its start on are taken. Assumes nothing.
use Prim.Native.Nat.{◌+◌, ◌-◌, ◌*◌, ◌≤◌}
use Rattle.std.specs.Prelude.{Some}
use Rattle.crmf.specs.steps.rows.Take.{TookTo}
use Rattle.crmf.proofs.rows.+element_inside_list.Given as goal

-- three times the bytes that are left, and one more for a list, two for an inside
abbrev pub decreases-element : goal.decreases-element
decreases-element g l = 3 * (l.end - l.spot.at)

abbrev pub decreases-list : goal.decreases-list
decreases-list g l = 3 * (l.end - l.start.at) + 1

abbrev pub decreases-inside : goal.decreases-inside
decreases-inside g l = 3 * (l.fit.end - l.fit.content) + 2

-- with the rows from the loop's spot on all are taken
abbrev pub invariant-list-loop-spot : goal.invariant-list-loop-spot
invariant-list-loop-spot g l =
    TookTo (g.T.Taker.takes l.taker) l.bytes l.end l.around l.initial.spot l.initial.out (Some l.spot) l.out
    × (l.initial.spot.at ≤ l.spot.at) × (l.spot.at ≤ l.end) × (l.spot.row ≤ 2 * l.spot.at)

abbrev pub decreases-list-loop-spot : goal.decreases-list-loop-spot
decreases-list-loop-spot g l = l.end - l.spot.at
