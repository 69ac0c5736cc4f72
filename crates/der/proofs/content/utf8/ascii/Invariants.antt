-- `der::content::utf8::ascii` meets its contract. The invariant of the loop: every octet before the place is below 80. Assumes nothing.
use Prim.Native.Nat.{ℕ, ◌-◌, ◌≤◌, ◌<◌}
use lib.ListN.{length, get_or}
use Rattle.der.specs.meaning.Eights.{Ascii}
use Rattle.der.proofs.content.utf8.ascii.Given as goal

abbrev pub invariant-loop-i : goal.invariant-loop-i
invariant-loop-i l = (l.i ≤ length l.content) × ((k : ℕ) → k < l.i → Ascii (get_or l.content k 0))

abbrev pub decreases-loop-i : goal.decreases-loop-i
decreases-loop-i l = length l.content - l.i
