-- `der::explain::element` and `der::explain::list` meet their contracts, by one induction. The measure is twice the sum of the octets and the levels
-- left, and one more for a list: each call of the one by the other lowers it. The header picks the element's case. The list's loop keeps
-- this invariant: the rest answers from its place on as the whole list does. Assumes nothing.
use Prim.Native.Nat.{◌+◌, ◌*◌, ◌≤◌}
use mathlib.Core.Path.{◌≡◌}
use lib.ListN.{length}
use Rattle.der.specs.steps.Explain.{Lent, list_of, element_of}
use Rattle.der.proofs.explain.+element_list.Given as goal

abbrev pub decreases-element : goal.decreases-element
decreases-element l = 2 * (length l.bytes.now + l.left)

abbrev pub decreases-list : goal.decreases-list
decreases-list l = 2 * (length l.bytes.now + l.left) + 1

-- the rest answers as the whole list does
abbrev pub invariant-list-loop-rest : goal.invariant-list-loop-rest
invariant-list-loop-rest l =
    Lent l.rest l.at
    × (length l.rest ≤ length l.bytes)
    × (list_of (element_of l.left) (length l.bytes) l.at l.rest ≡ list_of (element_of l.left) (length l.bytes) l.place l.bytes)

abbrev pub decreases-list-loop-rest : goal.decreases-list-loop-rest
decreases-list-loop-rest l = length l.rest
