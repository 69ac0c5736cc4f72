-- `crmf::explain::count` meets its contract: the list of elements from 0 to the input's end is the input's tree. Assumes nothing.
use mathlib.Core.Path.{ap, ◌∙◌}
use native.Mathlib.Omega.{arith}
use Rattle.crmf.specs.steps.explain.Tally.{Tally, tally_of}
use Rattle.crmf.specs.steps.explain.Walk.{empty_tally}
use Rattle.crmf.proofs.theorems.explain.Walking.{count_short, count_long}
use Rattle.crmf.proofs.explain.count.Goals as goal
use Rattle.crmf.proofs.explain.count.Goals.{Else-bytes-gt-LONGEST}

pub returns-then-bytes-gt-LONGEST : goal.returns-then-bytes-gt-LONGEST
returns-then-bytes-gt-LONGEST c = count_long c.args.bytes.now (tally_of c.empty-tally.result) c.empty-tally.ensures c.if-bytes-gt-LONGEST.true

pub list-requires : goal.list-requires
unfolding empty_tally
list-requires c =
    let given = (goal.at.list-requires c).Else-bytes-gt-LONGEST in
    let few = ap (λ (t : Tally). t.count) given.empty-tally.ensures in
    record { short = given.if-bytes-gt-LONGEST.false; order = omega arith; inside = omega arith; few = omega (arith, few) }

pub returns : goal.returns
returns c =
    let given = (goal.at.returns c).Else-bytes-gt-LONGEST in
    let tally = given.empty-tally in
    c.list.ensures.0 ∙ count_short given.args.bytes.now (tally_of tally.result) tally.ensures given.if-bytes-gt-LONGEST.false
