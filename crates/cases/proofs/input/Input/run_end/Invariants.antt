-- What `cases::input::Input::run_end` keeps: the characters that it has passed are left, and none of them ends a line. Assumes nothing.
use Rattle.std.proofs.Common.{◌-◌}
use Rattle.cases.specs.Input.{IsRun}
use Rattle.cases.proofs.input.Input.run_end.Given as goal

abbrev pub invariant-loop-end : goal.invariant-loop-end
invariant-loop-end l = IsRun l.self l.end

abbrev pub decreases-loop-end : goal.decreases-loop-end
decreases-loop-end l = l.last - l.end
