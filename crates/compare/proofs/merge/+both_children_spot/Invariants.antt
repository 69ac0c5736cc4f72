-- `compare::merge::children`, `spot` and `both` meet their contracts, by one induction on the rows that are left: below two containers there are
-- fewer. The loop always went from its start to its cursor. Assumes nothing.
use Prim.Native.Nat.{ℕ, ◌+◌, ◌-◌, ◌*◌}
use mathlib.Core.Path.{◌≡◌}
use mathlib.Core.List.{List}
use lib.ListN.{length}
use Rattle.compare.specs.declared.merge.Cursor.{Cursor}
use Rattle.compare.specs.steps.Walking.{Went}
use Rattle.compare.proofs.merge.+both_children_spot.Given as goal

-- how many rows are left
abbrev pub left : List ℕ → List ℕ → Cursor → ℕ
left one two at = (length one - at.first) + (length two - at.second)

-- three times the rows that are left, and one more for a spot, two for a row's children
abbrev pub decreases-both : goal.decreases-both
decreases-both l = 3 * left l.first.rows.now l.second.rows.now l.at

abbrev pub decreases-spot : goal.decreases-spot
decreases-spot l = 3 * left l.first.rows.now l.second.rows.now l.at + 1

abbrev pub decreases-children : goal.decreases-children
decreases-children l = 3 * left l.first.rows.now l.second.rows.now l.start + 2

abbrev pub invariant-children-loop-above : goal.invariant-children-loop-above
invariant-children-loop-above l =
    Went l.first.bytes.now l.second.bytes.now l.above l.initial.at l.from l.initial.list l.at l.list × (length l.list ≡ length l.initial.list)

abbrev pub decreases-children-loop-above : goal.decreases-children-loop-above
decreases-children-loop-above l = left l.first.rows.now l.second.rows.now l.at
