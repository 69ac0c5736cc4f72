-- `verdict::duplicates::collect` meets its contract: each turn of the loop is a step of the walk over the messages. Assumes nothing.
use Prim.Native.Nat.{◌-◌}
use mathlib.Core.Path.{◌≡◌}
use lib.ListN.{length}
use Rattle.verdict.proofs.theorems.duplicates.Collecting.{Walk}
use Rattle.verdict.proofs.duplicates.collect.Given as goal

abbrev pub invariant-loop-at : goal.invariant-loop-at
invariant-loop-at l = (length l.room ≡ length l.initial.room) × Walk l.bytes l.room l.at l.count

abbrev pub decreases-loop-at : goal.decreases-loop-at
decreases-loop-at l = length l.bytes - l.at
