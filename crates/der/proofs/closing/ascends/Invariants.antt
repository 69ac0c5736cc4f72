-- `der::closing::ascends` meets its contract. The loop's invariant: the rest, after the element before it, decides as the whole content does. The
-- measure is how many octets are left. Assumes nothing.
use Prim.Native.Nat.{◌≤◌}
use mathlib.Core.Path.{◌≡◌}
use lib.ListN.{length}
use Rattle.der.specs.steps.Order.{ascends, ascends_from}
use Rattle.der.proofs.closing.ascends.Given as goal

abbrev pub invariant-loop-before : goal.invariant-loop-before
invariant-loop-before l = (length l.rest ≤ length l.content) × (ascends_from (length l.content) l.before l.rest ≡ ascends l.content)

abbrev pub decreases-loop-before : goal.decreases-loop-before
decreases-loop-before l = length l.rest
