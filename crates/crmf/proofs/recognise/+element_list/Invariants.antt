-- `crmf::recognise::list` and `element` meet their contracts, by one induction on the bytes that are left: an inside has fewer. The list's loop
-- keeps this: the count from its spot on is the whole list's. An element's count is what its line and its content say. Assumes nothing.
use Prim.Native.Nat.{ℕ, ◌+◌, ◌-◌, ◌*◌, ◌≤◌}
use mathlib.Core.Path.{◌≡◌}
use lib.ListN.{length}
use Rattle.crmf.specs.steps.recognise.Count.{counts_at}
use Rattle.crmf.specs.steps.recognise.Inner.{count_from}
use Rattle.crmf.proofs.recognise.+element_list.Given as goal

-- twice the bytes that are left, and one more for a list
abbrev pub decreases-element : goal.decreases-element
decreases-element l = 2 * (length l.bytes.now - l.spot.at)

abbrev pub decreases-list : goal.decreases-list
decreases-list l = 2 * length l.bytes.now + 1

-- the count from the loop's spot on is the whole list's
abbrev pub invariant-list-loop-spot : goal.invariant-list-loop-spot
invariant-list-loop-spot l =
    (l.spot.at ≤ length l.bytes)
    × (l.spot.row + (length l.bytes - l.spot.at) ≤ l.before + length l.bytes)
    × ((p : ℕ) → count_from l.edition l.left p l.bytes l.spot ≡ counts_at l.edition l.left l.state l.before p l.bytes)

abbrev pub decreases-list-loop-spot : goal.decreases-list-loop-spot
decreases-list-loop-spot l = length l.bytes - l.spot.at
