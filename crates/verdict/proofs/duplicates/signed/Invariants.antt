-- `verdict::duplicates::signed` meets its contract: the loop builds the number of the octets passed, and it always fits. Assumes nothing.
use Rattle.std.proofs.Common.{◌≡◌}
use Rattle.verdict.proofs.theorems.duplicates.Magnitudes.{number_before}
use Rattle.verdict.proofs.duplicates.signed.Given as goal

abbrev pub invariant-loop-octet : goal.invariant-loop-octet
invariant-loop-octet l = l.number ≡ number_before l.content l.octet-index
