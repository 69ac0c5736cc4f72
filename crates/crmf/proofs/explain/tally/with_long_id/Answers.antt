-- `crmf::explain::tally::with_long_id` meets its contract: its test is the definition's. Assumes nothing.
use mathlib.Core.Path.{refl}
use Rattle.crmf.specs.meaning.Rows.{long_id}
use Rattle.crmf.specs.steps.explain.Walk.{with_long_id}
use Rattle.crmf.proofs.theorems.explain.Meeting.{tested, no_long}
use Rattle.crmf.proofs.explain.tally.with_long_id.Goals as goal

pub returns-then-kind-whole : goal.returns-then-kind-whole
unfolding with_long_id
returns-then-kind-whole c =
    let a = c.args in
    (rw (with_long_id, tested (long_id a.kind a.whole) _ _ _ (no_long a.tally.long _ c.is_none.ensures) c.if-kind-whole.true), refl)

pub returns : goal.returns
unfolding with_long_id
returns c =
    let a = c.args in
    (rw (with_long_id, tested (long_id a.kind a.whole) _ _ _ (no_long a.tally.long _ c.is_none.ensures) c.if-kind-whole.false), refl)
