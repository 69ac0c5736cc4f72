-- `der::recognise::is_list` and `der::recognise::is_element` meet their contracts, by one induction. The measure is twice the count of the octets, and
-- one more for an element: each call of the one by the other lowers it. The list's loop keeps this invariant: the rest, after the element before
-- it, decides as the whole list does. Assumes nothing.
use Prim.Native.Nat.{◌+◌, ◌*◌, ◌≤◌}
use mathlib.Core.Path.{◌≡◌}
use mathlib.Core.Bool.{not, ◌&&◌, ◌||◌}
use lib.ListN.{length}
use Rattle.der.specs.steps.Order.{ascends}
use Rattle.der.specs.steps.Recognise.{is_list}
use Rattle.der.proofs.theorems.recognise.RecogniseWays.{Rest}
use Rattle.der.proofs.recognise.+is_element_is_list.Given as goal

abbrev pub decreases-is_list : goal.decreases-is_list
decreases-is_list l = 2 * length l.bytes.now

abbrev pub decreases-is_element : goal.decreases-is_element
decreases-is_element l = 2 * length l.content.now + 1

-- the rest decides as the whole list does
abbrev pub invariant-is_list-loop-before : goal.invariant-is_list-loop-before
invariant-is_list-loop-before l =
    (length l.rest ≤ length l.bytes)
    × (Rest (length l.bytes) l.left l.in_set l.before l.rest ≡ (is_list l.left l.bytes && (not l.in_set || ascends l.bytes)))

abbrev pub decreases-is_list-loop-before : goal.decreases-is_list-loop-before
decreases-is_list-loop-before l = length l.rest
