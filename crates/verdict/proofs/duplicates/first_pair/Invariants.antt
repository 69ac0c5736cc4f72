-- `verdict::duplicates::first_pair` meets its contract: no position that the inner loop has passed, one by one or eight at once, is the earlier
-- one, and no pair has its later position before the outer loop's. Assumes nothing.
use Rattle.std.proofs.Common.{◌≡◌, ◌≤◌, None}
use Rattle.verdict.specs.steps.SearchAnswer.{numbers_of, pair_of}
use Rattle.verdict.proofs.theorems.duplicates.Eights.{Passed, pair_left}
use Rattle.verdict.proofs.duplicates.first_pair.Given as goal

abbrev pub invariant-loop-earlier : goal.invariant-loop-earlier
invariant-loop-earlier l = (l.pair ≡ None) × (l.earlier ≤ l.later) × Passed l.id.0 l.earlier l.ids

abbrev pub invariant-pair : goal.invariant-pair
invariant-pair l = (l.pair ≡ None) × (pair_left l.ids l.later ≡ pair_of (numbers_of l.ids))
