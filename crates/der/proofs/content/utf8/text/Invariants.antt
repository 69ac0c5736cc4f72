-- `der::content::utf8::text` meets its contract. The loop's invariant: the check has read the octets before the place, and whatever follows, it
-- answers from there as from the first octet. It holds after eight octets below 80 too, where a character may begin again. Assumes nothing.
use Prim.Native.Nat.{◌-◌}
use lib.ListN.{length}
use Rattle.der.proofs.theorems.content.Checked.{Checked}
use Rattle.der.proofs.content.utf8.text.Given as goal

abbrev pub invariant-loop-i : goal.invariant-loop-i
invariant-loop-i l = Checked l.content l.i l.wanted.left l.wanted.low l.wanted.high

abbrev pub decreases-loop-i : goal.decreases-loop-i
decreases-loop-i l = length l.content - l.i
