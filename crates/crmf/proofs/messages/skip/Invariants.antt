-- `crmf::messages::skip` meets its contract. The loop's invariant: skipping the elements that are left from its place on gives what skipping all
-- of them from the first place does. Assumes nothing.
use Prim.Native.Nat.{◌-◌}
use mathlib.Core.Path.{◌≡◌}
use lib.ListN.{drop}
use Rattle.crmf.specs.steps.Fields.{fields_between, Places}
use Rattle.crmf.proofs.messages.skip.Given as goal

abbrev pub invariant-loop-passed : goal.invariant-loop-passed
invariant-loop-passed l =
    Places l.bytes l.place l.end × (drop (l.count - l.passed) (fields_between l.bytes l.place l.end) ≡ drop l.count (fields_between l.bytes l.at l.end))
