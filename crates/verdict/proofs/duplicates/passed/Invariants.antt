-- `verdict::duplicates::passed` meets its contract: none of the positions in front of what is left has the certReqId, and they are
-- passed eight at once. Assumes nothing.
use Rattle.std.proofs.Common.{◌≡◌, ◌≤◌, ◌-◌, ◌%◌, length, drop}
use Rattle.verdict.proofs.theorems.duplicates.Eights.{Passed}
use Rattle.verdict.proofs.duplicates.passed.Given as goal

abbrev pub invariant-loop-eight : goal.invariant-loop-eight
invariant-loop-eight l =
    let n = length l.ids - length l.rest in
    (length l.rest ≤ length l.ids) × (l.rest ≡ drop n l.ids) × Passed l.id.0 n l.ids × (n % 8 ≡ 0)

abbrev pub decreases-loop-eight : goal.decreases-loop-eight
decreases-loop-eight l = length l.rest
